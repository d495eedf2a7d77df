-- What the statements of a file define with the productions of its marked words.
use Rattle.grammar.proofs.Std.{◌≡◌, ◌⊎◌, ◌+◌, ◌*◌, ◌≤◌, ◌&&◌, ◌||◌, [], ◌∷◌, ◌++◌, ◌∙◌}
use Rattle.grammar.proofs.Std.{inl, inr, ℕ, zero, suc, Bool, true, false, List, refl, ap, sym, length, subst, if◌then◌else◌, Some, None, map, drop, slice_get, filter, nat_lt, unwrap_or, codes, list_any, list_all, fold, flat_map, enumerate_from, bytes_eq, lines}
use Rattle.grammar.proofs.Std.{arith, append-nil, length-append, map-append, filter_map-append, fold-append, list_any-append, both_ways, or_cases, or_left, or_parts, or_right}
use Rattle.grammar.proofs.Common.{Version, One, Mark, Once, Any, AtLeastOnce, AtMostOnce, Word, words, is_name, after_equals, mark_of, is_mark, without_last, plain}
use Rattle.grammar.proofs.Common.{Line, Nothing, Production, Rule, Start, Fold, Bad, Statement, at, numbered, is_comment, is_right_word, production, rule, statement, longer_line, line_of_words, line_of, statements_in, version_of, statements}
use Rattle.grammar.proofs.Common.{name_unmarked}
use Rattle.grammar.proofs.Common.{ProductionLine, as_rule, as_production, as_start, productions, starts, nonterminals, is_among, with_name, right_sides, added, marked, written_out, AreFaultless, HaveReferents, symbol_fault, right_fault, is_skip_rule, AreFew, rules}
use Rattle.grammar.proofs.Common.{first_of}
use Rattle.grammar_line.specs.Words.{is_marked}
use Rattle.grammar.proofs.Lefts.{bytes_eq_same, among_fold}
use Rattle.grammar.proofs.Numbered.{same_bytes, neither, comes_from, says_production, one_line, AreOnce, some_same}
use Rattle.grammar.proofs.Ranges.{names_added, fold_keeps, IsFine, Of_nonterminal, Of_rule, is_fine, AllFine, AreFine, AreShort, right_faultless, start_among}

abbrev lefts : List ProductionLine → List Word
lefts ps = map (λ p. p.left) ps

abbrev lines_for : Word → List (List Word) → List ProductionLine
lines_for w rights = map (λ right. record { left = w; right = right }) rights

-- the productions of a marked word, without their numbers
abbrev added_lines : Word → List ProductionLine
added_lines w = lines_for w (right_sides (mark_of w) w (plain w))

productions_for : (w : Word) (rights : List (List Word)) → productions (map (λ right. at 0 (Production w right)) rights) ≡ lines_for w rights
productions_for w [] = refl
productions_for w (r ∷ rs) = ap (λ xs. record { left = w; right = r } ∷ xs) (productions_for w rs)

rules_for : (w : Word) (rights : List (List Word)) → rules (map (λ right. at 0 (Production w right)) rights) ≡ []
rules_for w [] = refl
rules_for w (r ∷ rs) = rules_for w rs

starts_for : (w : Word) (rights : List (List Word)) → starts (map (λ right. at 0 (Production w right)) rights) ≡ []
starts_for w [] = refl
starts_for w (r ∷ rs) = starts_for w rs

productions_added : (ws : List Word) → productions (flat_map added ws) ≡ flat_map added_lines ws
productions_added [] = refl
productions_added (w ∷ ws) = filter_map-append (λ s. as_production s.says) (added w) (flat_map added ws) ∙ (λ i. productions_for w (right_sides (mark_of w) w (plain w)) i ++ productions_added ws i)

rules_added : (ws : List Word) → rules (flat_map added ws) ≡ []
rules_added [] = refl
rules_added (w ∷ ws) = filter_map-append (λ s. as_rule s.says) (added w) (flat_map added ws) ∙ (λ i. rules_for w (right_sides (mark_of w) w (plain w)) i ++ rules_added ws i)

starts_added : (ws : List Word) → starts (flat_map added ws) ≡ []
starts_added [] = refl
starts_added (w ∷ ws) = filter_map-append (λ s. as_start s.says) (added w) (flat_map added ws) ∙ (λ i. starts_for w (right_sides (mark_of w) w (plain w)) i ++ starts_added ws i)

pub rules_written : (ss : List Statement) → rules (written_out ss) ≡ rules ss
rules_written ss = filter_map-append (λ s. as_rule s.says) ss (flat_map added (marked ss)) ∙ ap (λ xs. rules ss ++ xs) (rules_added (marked ss)) ∙ append-nil (rules ss)

pub starts_written : (ss : List Statement) → starts (written_out ss) ≡ starts ss
starts_written ss = filter_map-append (λ s. as_start s.says) ss (flat_map added (marked ss)) ∙ ap (λ xs. starts ss ++ xs) (starts_added (marked ss)) ∙ append-nil (starts ss)

productions_written : (ss : List Statement) → productions (written_out ss) ≡ productions ss ++ flat_map added_lines (marked ss)
productions_written ss = filter_map-append (λ s. as_production s.says) ss (flat_map added (marked ss)) ∙ ap (λ xs. productions ss ++ xs) (productions_added (marked ss))

nonterminals_written : (ss : List Statement) → nonterminals (written_out ss) ≡ fold with_name (nonterminals ss) (lefts (flat_map added_lines (marked ss)))
nonterminals_written ss =
    ap (λ ps. fold with_name [] (lefts ps)) (productions_written ss)
    ∙ ap (fold with_name []) (map-append (λ p. p.left) (productions ss) (flat_map added_lines (marked ss)))
    ∙ fold-append with_name [] (lefts (productions ss)) (lefts (flat_map added_lines (marked ss)))

-- How many there are.

again : (w : Word) (names : List Word) (rights : List (List Word)) → is_among w names ≡ true → fold with_name names (lefts (lines_for w rights)) ≡ names
again w names [] h = refl
again w names (r ∷ rs) h = ap (λ b. fold with_name (if b then names else names ++ w ∷ []) (lefts (lines_for w rs))) h ∙ again w names rs h

one_more : (w : Word) (names : List Word) → length (with_name names w) ≤ length names + 1
one_more w names =
    elim (is_among w names) as (λ b. length (if b then names else names ++ w ∷ []) ≤ length names + 1)
    [ true ↦ omega arith | false ↦ omega (arith, length-append names (w ∷ [])) ]

word_counts : (w : Word) (names : List Word) (rights : List (List Word)) → length (fold with_name names (lefts (lines_for w rights))) ≤ length names + 1
word_counts w names [] = omega arith
word_counts w names (r ∷ rs) = omega (arith, ap length (again w (with_name names w) rs (names_added w names)), one_more w names)

words_count : (names ws : List Word) → length (fold with_name names (lefts (flat_map added_lines ws))) ≤ length names + length ws
words_count names [] = omega arith
words_count names (w ∷ ws) =
    let here : List Word = fold with_name names (lefts (added_lines w)) in
    let split : fold with_name names (lefts (flat_map added_lines (w ∷ ws))) ≡ fold with_name here (lefts (flat_map added_lines ws)) =
    ap (fold with_name names) (map-append (λ p. p.left) (added_lines w) (flat_map added_lines ws)) ∙ fold-append with_name names (lefts (added_lines w)) (lefts (flat_map added_lines ws)) in
    omega (arith, ap length split, words_count here ws, word_counts w names (right_sides (mark_of w) w (plain w)))

two_sides : (m : Mark) (w x : Word) → length (right_sides m w x) ≤ 2
two_sides Once w x = omega arith
two_sides m w x = omega arith

length-lines : (w : Word) (rights : List (List Word)) → length (lines_for w rights) ≡ length rights
length-lines w [] = refl
length-lines w (r ∷ rs) = ap suc (length-lines w rs)

lines_count : (ws : List Word) → length (flat_map added_lines ws) ≤ 2 * length ws
lines_count [] = omega arith
lines_count (w ∷ ws) =
    omega (arith, lines_count ws, length-append (added_lines w) (flat_map added_lines ws), length-lines w (right_sides (mark_of w) w (plain w)), two_sides (mark_of w) w (plain w))

pub few_nonterminals : (ss : List Statement) → AreFew ss → length (nonterminals (written_out ss)) ≤ 256
few_nonterminals ss few = omega (arith, ap length (nonterminals_written ss), words_count (nonterminals ss) (marked ss), few.few_nonterminals)

pub few_productions : (ss : List Statement) → AreFew ss → length (productions (written_out ss)) ≤ 1024
few_productions ss few = omega (arith, ap length (productions_written ss), length-append (productions ss) (flat_map added_lines (marked ss)), lines_count (marked ss), few.few_productions)

-- Where words stand.

fold_adds_any : (w : Word) (names ws : List Word) → is_among w ws ≡ true → is_among w (fold with_name names ws) ≡ true
fold_adds_any w names [] h = cc
fold_adds_any w names (x ∷ ws) h = elim (or_cases (bytes_eq x w) (is_among w ws) h) [
  | inl e ↦ fold_keeps w (with_name names x) ws (subst (λ v. is_among v (with_name names x) ≡ true) (same_bytes x w e) (names_added x names))
  | inr t ↦ fold_adds_any w (with_name names x) ws t
]

own_left : (m : Mark) (w x : Word) → is_mark m ≡ true → is_among w (lefts (lines_for w (right_sides m w x))) ≡ true
own_left Once w x h = cc
own_left d w x h = or_left (bytes_eq w w) _ (bytes_eq_same w)

among_added : (w : Word) (ws : List Word) → is_marked w ≡ true → is_among w ws ≡ true → is_among w (lefts (flat_map added_lines ws)) ≡ true
among_added w [] m h = cc
among_added w (v ∷ vs) m h =
    ap (is_among w) (map-append (λ p. p.left) (added_lines v) (flat_map added_lines vs))
    ∙ list_any-append (λ u. bytes_eq u w) (lefts (added_lines v)) (lefts (flat_map added_lines vs))
    ∙ elim (or_cases (bytes_eq v w) (is_among w vs) h) [
      | inl e ↦ or_left (is_among w (lefts (added_lines v))) (is_among w (lefts (flat_map added_lines vs)))
          (subst (λ u. is_among w (lefts (added_lines u)) ≡ true) (sym (same_bytes v w e)) (own_left (mark_of w) w (plain w) m))
      | inr t ↦ or_right (is_among w (lefts (added_lines v))) (is_among w (lefts (flat_map added_lines vs))) (among_added w vs m t)
    ]

in_filter : (w : Word) (ws : List Word) → is_among w (filter is_marked ws) ≡ true → (is_marked w ≡ true) × (is_among w ws ≡ true)
in_filter w [] h = cc
in_filter w (v ∷ vs) h = go (is_marked v) refl (λ t. in_filter w vs t) h
  where
    later : (is_marked w ≡ true) × (is_among w vs ≡ true) → (is_marked w ≡ true) × (is_among w (v ∷ vs) ≡ true)
    later two = (two.0, or_right (bytes_eq v w) (is_among w vs) two.1)

    go : (b : Bool) → is_marked v ≡ b → (is_among w (filter is_marked vs) ≡ true → (is_marked w ≡ true) × (is_among w vs ≡ true))
        → is_among w (if b then v ∷ filter is_marked vs else filter is_marked vs) ≡ true → (is_marked w ≡ true) × (is_among w (v ∷ vs) ≡ true)
    go true m f t = elim (or_cases (bytes_eq v w) (is_among w (filter is_marked vs)) t) [
      | inl e ↦ (subst (λ u. is_marked u ≡ true) (same_bytes v w e) m, or_left (bytes_eq v w) (is_among w vs) e)
      | inr r ↦ later (f r)
    ]
    go false m f t = later (f t)

to_filter : (w : Word) (ws : List Word) → is_marked w ≡ true → is_among w ws ≡ true → is_among w (filter is_marked ws) ≡ true
to_filter w [] m h = cc
to_filter w (v ∷ vs) m h = elim (or_cases (bytes_eq v w) (is_among w vs) h) [
  | inl e ↦ let mv : is_marked v ≡ true = ap is_marked (same_bytes v w e) ∙ m in
      ap (λ b. is_among w (if b then v ∷ filter is_marked vs else filter is_marked vs)) mv ∙ or_left (bytes_eq v w) (is_among w (filter is_marked vs)) e
  | inr t ↦ go (is_marked v) (to_filter w vs m t)
]
  where
    go : (b : Bool) → is_among w (filter is_marked vs) ≡ true → is_among w (if b then v ∷ filter is_marked vs else filter is_marked vs) ≡ true
    go true t = or_right (bytes_eq v w) (is_among w (filter is_marked vs)) t
    go false t = t

-- the words of the right sides
abbrev right_words : List Statement → List Word
right_words ss = flat_map (λ p. p.right) (productions ss)

pub marked_word : (w : Word) (ss : List Statement) → is_among w (marked ss) ≡ true → (is_marked w ≡ true) × (is_among w (right_words ss) ≡ true)
marked_word w ss h = in_filter w (right_words ss) (among_fold w [] (filter is_marked (right_words ss)) h)

to_marked : (w : Word) (ss : List Statement) → is_marked w ≡ true → is_among w (right_words ss) ≡ true → is_among w (marked ss) ≡ true
to_marked w ss m h = fold_adds_any w [] (filter is_marked (right_words ss)) (to_filter w (right_words ss) m h)

pub kept_in : (w : Word) (ss : List Statement) → is_among w (nonterminals ss) ≡ true → is_among w (nonterminals (written_out ss)) ≡ true
kept_in w ss h = ap (is_among w) (nonterminals_written ss) ∙ fold_keeps w (nonterminals ss) (lefts (flat_map added_lines (marked ss))) h

marked_in : (w : Word) (ss : List Statement) → is_among w (marked ss) ≡ true → is_among w (nonterminals (written_out ss)) ≡ true
marked_in w ss h = ap (is_among w) (nonterminals_written ss) ∙ fold_adds_any w (nonterminals ss) (lefts (flat_map added_lines (marked ss))) (among_added w (marked ss) (marked_word w ss h).0 h)

pub start_in : (ss : List Statement) → HaveReferents ss ss → nat_lt 0 (length (starts ss)) ≡ true → is_among (first_of (starts (written_out ss))) (nonterminals (written_out ss)) ≡ true
start_in ss refers some = ap (λ ws. is_among (first_of ws) (nonterminals (written_out ss))) (starts_written ss) ∙ kept_in (first_of (starts ss)) ss (start_among ss refers some)

-- a production of the file, or one of a marked word
pub met_in : {X : Type 0} (xs ys : List X) (p : ℕ) (x : X) → slice_get (xs ++ ys) p ≡ Some x → (slice_get xs p ≡ Some x) ⊎ ((q : ℕ) × (p ≡ length xs + q) × (slice_get ys q ≡ Some x))
met_in [] ys p x e = inr (p, omega arith, e)
met_in (z ∷ xs) ys zero x e = inl e
met_in (z ∷ xs) ys (suc p) x e = elim (met_in xs ys p x e) [
  | inl there ↦ inl there
  | inr h ↦ let (q, is, there) = h in inr (q, omega (arith, is), there)
]

all_rights : (ps : List ProductionLine) (w : Word) (p : ℕ) (x : ProductionLine) → slice_get ps p ≡ Some x → is_among w x.right ≡ true → is_among w (flat_map (λ y. y.right) ps) ≡ true
all_rights [] w p x e h = cc
all_rights (y ∷ ps) w zero x e h =
    let same : y ≡ x = cc in
    list_any-append (λ u. bytes_eq u w) y.right (flat_map (λ z. z.right) ps) ∙ or_left (is_among w y.right) _ (subst (λ (z : ProductionLine). is_among w z.right ≡ true) (sym same) h)
all_rights (y ∷ ps) w (suc p) x e h = list_any-append (λ u. bytes_eq u w) y.right (flat_map (λ z. z.right) ps) ∙ or_right (is_among w y.right) _ (all_rights ps w p x e h)

module _ (ss : List Statement) (refers : HaveReferents ss ss) where
  abbrev all : List Statement
  all = written_out ss

  lift : (w : Word) → IsFine ss w → IsFine all w
  lift w (Of_nonterminal a) = Of_nonterminal (kept_in w ss a)
  lift w (Of_rule a b c) = go (is_among w (nonterminals all)) refl
    where
      go : (t : Bool) → is_among w (nonterminals all) ≡ t → IsFine all w
      go true e = Of_nonterminal e
      go false e = Of_rule e (ap (list_any (is_skip_rule w)) (rules_written ss) ∙ b) (ap (λ rs. is_among w (map (λ r. r.name) rs)) (rules_written ss) ∙ c)

  fine_word : (w : Word) → symbol_fault ss (plain w) ≡ None → (is_marked w ≡ true → is_among w (marked ss) ≡ true) → IsFine all w
  fine_word w free among = go (is_marked w) refl
    where
      go : (t : Bool) → is_marked w ≡ t → IsFine all w
      go true e = Of_nonterminal (marked_in w ss (among e))
      go false e = let same : plain w ≡ w = ap (λ t. if t then without_last w else w) e in lift w (is_fine ss w (ap (symbol_fault ss) (sym same) ∙ free))

  fine_words : (ws : List Word) → right_fault ss (map plain ws) ≡ None → ((w : Word) → is_among w ws ≡ true → is_marked w ≡ true → is_among w (marked ss) ≡ true) → AllFine all ws
  fine_words [] free among = tt
  fine_words (w ∷ ws) free among =
      let two = neither (symbol_fault ss (plain w)) (right_fault ss (map plain ws)) free in (
        fine_word w two.0 (among w (or_left (bytes_eq w w) (is_among w ws) (bytes_eq_same w))),
        fine_words ws two.1 (λ v h m. among v (or_right (bytes_eq w v) (is_among v ws) h) m),
      )

  fine_line : (p : ℕ) (x : ProductionLine) → slice_get (productions ss) p ≡ Some x → AllFine all x.right
  fine_line p x e = fine_words x.right (right_faultless ss refers p x e) (λ w h m. to_marked w ss m (all_rights (productions ss) w p x e h))

  -- the name of a marked word has no fault
  free_in : (w : Word) (ws : List Word) → right_fault ss (map plain ws) ≡ None → is_among w ws ≡ true → symbol_fault ss (plain w) ≡ None
  free_in w [] free h = cc
  free_in w (v ∷ vs) free h =
      let two = neither (symbol_fault ss (plain v)) (right_fault ss (map plain vs)) free in
      elim (or_cases (bytes_eq v w) (is_among w vs) h) [ inl e ↦ subst (λ u. symbol_fault ss (plain u) ≡ None) (same_bytes v w e) two.0 | inr t ↦ free_in w vs two.1 t ]

  free_among : (w : Word) (ps : List ProductionLine) → ((p : ℕ) (x : ProductionLine) → slice_get ps p ≡ Some x → right_fault ss (map plain x.right) ≡ None)
      → is_among w (flat_map (λ y. y.right) ps) ≡ true → symbol_fault ss (plain w) ≡ None
  free_among w [] free h = cc
  free_among w (y ∷ ps) free h =
      elim (or_cases (is_among w y.right) (is_among w (flat_map (λ z. z.right) ps)) (sym (list_any-append (λ u. bytes_eq u w) y.right (flat_map (λ z. z.right) ps)) ∙ h)) [
        | inl t ↦ free_in w y.right (free 0 y refl) t
        | inr t ↦ free_among w ps (λ p x e. free (suc p) x e) t
      ]

  fine_sides : (m : Mark) (w x : Word) → IsFine all w → IsFine all x → (p : ℕ) (y : ProductionLine) → slice_get (lines_for w (right_sides m w x)) p ≡ Some y → AllFine all y.right
  fine_sides Once w x a b p y e = cc
  fine_sides Any w x a b (suc zero) y e = subst (λ (z : ProductionLine). AllFine all z.right) (some_same _ y e) (a, (b, tt))
  fine_sides AtLeastOnce w x a b zero y e = subst (λ (z : ProductionLine). AllFine all z.right) (some_same _ y e) (b, tt)
  fine_sides AtLeastOnce w x a b (suc zero) y e = subst (λ (z : ProductionLine). AllFine all z.right) (some_same _ y e) (a, (b, tt))
  fine_sides AtMostOnce w x a b (suc zero) y e = subst (λ (z : ProductionLine). AllFine all z.right) (some_same _ y e) (b, tt)
  fine_sides d w x a b zero y e = subst (λ (z : ProductionLine). AllFine all z.right) (some_same _ y e) tt
  fine_sides m w x a b p y e = cc

  fine_added : (ws : List Word) → ((w : Word) → is_among w ws ≡ true → is_among w (marked ss) ≡ true) → (p : ℕ) (y : ProductionLine)
      → slice_get (flat_map added_lines ws) p ≡ Some y → AllFine all y.right
  fine_added [] among p y e = cc
  fine_added (w ∷ ws) among p y e = elim (met_in (added_lines w) (flat_map added_lines ws) p y e) [
    | inl there ↦
        let here : is_among w (marked ss) ≡ true = among w (or_left (bytes_eq w w) (is_among w ws) (bytes_eq_same w)) in
        let name : IsFine all (plain w) = lift (plain w) (is_fine ss (plain w) (free_among w (productions ss) (λ q x h. right_faultless ss refers q x h) (marked_word w ss here).1)) in
        fine_sides (mark_of w) w (plain w) (Of_nonterminal (marked_in w ss here)) name p y there
    | inr h ↦ let (q, is, there) = h in fine_added ws (λ v t. among v (or_right (bytes_eq w v) (is_among v ws) t)) q y there
  ]

  pub are_fine : AreFine all
  are_fine p x e = elim (met_in (productions ss) (flat_map added_lines (marked ss)) p x (ap (λ ps. slice_get ps p) (sym (productions_written ss)) ∙ e)) [
    | inl there ↦ fine_line p x there
    | inr h ↦ let (q, is, there) = h in fine_added (marked ss) (λ w t. t) q x there
  ]

-- Right sides are short.

short_sides : (m : Mark) (w x : Word) (p : ℕ) (y : ProductionLine) → slice_get (lines_for w (right_sides m w x)) p ≡ Some y → length y.right ≤ 16
short_sides Once w x p y e = cc
short_sides Any w x (suc (suc p)) y e = cc
short_sides AtLeastOnce w x (suc (suc p)) y e = cc
short_sides AtMostOnce w x (suc (suc p)) y e = cc
short_sides m w x p y e = let is = ap (λ (z : ProductionLine). length z.right) (some_same _ y e) in omega (arith, is)

short_added : (ws : List Word) (p : ℕ) (y : ProductionLine) → slice_get (flat_map added_lines ws) p ≡ Some y → length y.right ≤ 16
short_added [] p y e = cc
short_added (w ∷ ws) p y e = elim (met_in (added_lines w) (flat_map added_lines ws) p y e) [
  | inl there ↦ short_sides (mark_of w) w (plain w) p y there
  | inr h ↦ let (q, is, there) = h in short_added ws q y there
]

pub are_short : (ss : List Statement) → AreFew ss → AreShort (written_out ss)
are_short ss few p x e = elim (met_in (productions ss) (flat_map added_lines (marked ss)) p x (ap (λ ps. slice_get ps p) (sym (productions_written ss)) ∙ e)) [
  | inl there ↦ few.short p x there
  | inr h ↦ let (q, is, there) = h in short_added (marked ss) q x there
]

-- No production is there twice.

abbrev AreDistinct : List Word → Type 0
AreDistinct [] = Unit {0}
AreDistinct (w ∷ ws) = (is_among w ws ≡ false) × AreDistinct ws

both_absent : (a b : Bool) → a ≡ false → b ≡ false → (a || b) ≡ false
both_absent a b e f = ap (λ t. t || b) e ∙ f

turned : (v w : Word) → bytes_eq w v ≡ false → bytes_eq v w ≡ false
turned v w e = go (bytes_eq v w) refl
  where
    go : (b : Bool) → bytes_eq v w ≡ b → bytes_eq v w ≡ false
    go true is = let same : v ≡ w = same_bytes v w is in let h : true ≡ false = sym (bytes_eq_same w) ∙ ap (bytes_eq w) (sym same) ∙ e in absurd (cc)
    go false is = is

distinct_push : (ws : List Word) (w : Word) → AreDistinct ws → is_among w ws ≡ false → AreDistinct (ws ++ w ∷ [])
distinct_push [] w d e = (refl, tt)
distinct_push (v ∷ vs) w d e =
    let two = or_parts (bytes_eq v w) (is_among w vs) e in (
      list_any-append (λ u. bytes_eq u v) vs (w ∷ []) ∙ both_absent (is_among v vs) (bytes_eq w v || false) d.0 (both_absent (bytes_eq w v) false (turned w v two.0) refl),
      distinct_push vs w d.1 two.1,
    )

distinct_with : (ws : List Word) (w : Word) → AreDistinct ws → AreDistinct (with_name ws w)
distinct_with ws w d = go (is_among w ws) refl
  where
    go : (b : Bool) → is_among w ws ≡ b → AreDistinct (if b then ws else ws ++ w ∷ [])
    go true e = d
    go false e = distinct_push ws w d e

distinct_fold : (names ws : List Word) → AreDistinct names → AreDistinct (fold with_name names ws)
distinct_fold names [] d = d
distinct_fold names (w ∷ ws) d = distinct_fold (with_name names w) ws (distinct_with names w d)

left_of_line : (w : Word) (rights : List (List Word)) (p : ℕ) (y : ProductionLine) → slice_get (lines_for w rights) p ≡ Some y → w ≡ y.left
left_of_line w [] p y e = cc
left_of_line w (r ∷ rs) zero y e = ap (λ (z : ProductionLine). z.left) (some_same _ y e)
left_of_line w (r ∷ rs) (suc p) y e = left_of_line w rs p y e

left_of_added : (ws : List Word) (p : ℕ) (y : ProductionLine) → slice_get (flat_map added_lines ws) p ≡ Some y → is_among y.left ws ≡ true
left_of_added [] p y e = cc
left_of_added (w ∷ ws) p y e = elim (met_in (added_lines w) (flat_map added_lines ws) p y e) [
  | inl there ↦ or_left (bytes_eq w y.left) (is_among y.left ws) (ap (bytes_eq w) (sym (left_of_line w (right_sides (mark_of w) w (plain w)) p y there)) ∙ bytes_eq_same w)
  | inr h ↦ let (q, is, there) = h in or_right (bytes_eq w y.left) (is_among y.left ws) (left_of_added ws q y there)
]

two_ways : (w : Word) (r s : List Word) (p q : ℕ) (y : ProductionLine) → (r ≡ s → ⊥) → slice_get (lines_for w (r ∷ s ∷ [])) p ≡ Some y → slice_get (lines_for w (r ∷ s ∷ [])) q ≡ Some y → p ≡ q
two_ways w r s zero zero y different a b = refl
two_ways w r s zero (suc zero) y different a b = absurd (different (ap (λ (z : ProductionLine). z.right) (some_same _ y a) ∙ sym (ap (λ (z : ProductionLine). z.right) (some_same _ y b))))
two_ways w r s (suc zero) zero y different a b = absurd (different (ap (λ (z : ProductionLine). z.right) (some_same _ y b) ∙ sym (ap (λ (z : ProductionLine). z.right) (some_same _ y a))))
two_ways w r s (suc zero) (suc zero) y different a b = refl
two_ways w r s p q y different a b = cc

once_sides : (m : Mark) (w x : Word) (p q : ℕ) (y : ProductionLine) → slice_get (lines_for w (right_sides m w x)) p ≡ Some y → slice_get (lines_for w (right_sides m w x)) q ≡ Some y → p ≡ q
once_sides Once w x p q y a b = cc
once_sides Any w x p q y a b = two_ways w [] (w ∷ x ∷ []) p q y (λ e. absurd (cc)) a b
once_sides AtLeastOnce w x p q y a b = two_ways w (x ∷ []) (w ∷ x ∷ []) p q y (λ e. let h : 1 ≡ 2 = ap length e in omega (arith, h)) a b
once_sides AtMostOnce w x p q y a b = two_ways w [] (x ∷ []) p q y (λ e. absurd (cc)) a b

once_added : (ws : List Word) → AreDistinct ws → (p q : ℕ) (y : ProductionLine) → slice_get (flat_map added_lines ws) p ≡ Some y → slice_get (flat_map added_lines ws) q ≡ Some y → p ≡ q
once_added [] d p q y a b = cc
once_added (w ∷ ws) d p q y a b =
    elim (met_in (added_lines w) (flat_map added_lines ws) p y a) [
      | inl here ↦ elim (met_in (added_lines w) (flat_map added_lines ws) q y b) [
        | inl there ↦ once_sides (mark_of w) w (plain w) p q y here there
        | inr h ↦ let (k, is, there) = h in
            absurd (both_ways (is_among w ws) d.0 (subst (λ u. is_among u ws ≡ true) (sym (left_of_line w (right_sides (mark_of w) w (plain w)) p y here)) (left_of_added ws k y there)))
      ]
      | inr g ↦ let (j, at, here) = g in elim (met_in (added_lines w) (flat_map added_lines ws) q y b) [
        | inl there ↦ absurd (both_ways (is_among w ws) d.0 (subst (λ u. is_among u ws ≡ true) (sym (left_of_line w (right_sides (mark_of w) w (plain w)) q y there)) (left_of_added ws j y here)))
        | inr h ↦ let (k, is, there) = h in let same : j ≡ k = once_added ws d.1 j k y here there in omega (arith, at, is, same)
      ]
    ]

-- the left side of a line is a name
abbrev pub has_plain_left : Line → Bool
has_plain_left (Production left right) = is_name left
has_plain_left _ = true

abbrev pub HavePlainLefts : List Statement → Type 0
HavePlainLefts ss = (k : ℕ) (s : Statement) → slice_get ss k ≡ Some s → has_plain_left s.says ≡ true

plain_if : (b : Bool) (x y : Line) → has_plain_left x ≡ true → has_plain_left y ≡ true → has_plain_left (if b then x else y) ≡ true
plain_if true x y e f = e
plain_if false x y e f = f

plain_production : (v : Version) (a : Word) (ws : List Word) → has_plain_left (production v a ws) ≡ true
plain_production v a ws = go (is_name a) refl (list_all (is_right_word v) ws)
  where
    go : (b : Bool) → is_name a ≡ b → (t : Bool) → has_plain_left (if b && t then Production a ws else Bad) ≡ true
    go true e true = e
    go true e false = refl
    go false e t = refl

plain_statement : (a b : Word) (ws : List Word) (pattern : Word) → has_plain_left (statement a b ws pattern) ≡ true
plain_statement a b [] pattern = plain_if (is_name b && bytes_eq a (codes "start")) (Start b) (if is_name b && bytes_eq a (codes "fold") then Fold b else Bad) refl
    (plain_if (is_name b && bytes_eq a (codes "fold")) (Fold b) Bad refl refl)
plain_statement a b (c ∷ ws) pattern =
    plain_if (bytes_eq c (codes "=")) (rule a b pattern) Bad
    (plain_if (is_name b && bytes_eq a (codes "token")) (Rule false b pattern) (if is_name b && bytes_eq a (codes "skip") then Rule true b pattern else Bad) refl
    (plain_if (is_name b && bytes_eq a (codes "skip")) (Rule true b pattern) Bad refl refl))
    refl

plain_words : (v : Version) (ws : List Word) (pattern : Word) → has_plain_left (line_of_words v ws pattern) ≡ true
plain_words v [] pattern = refl
plain_words v (a ∷ []) pattern = plain_if (is_comment a) Nothing Bad refl refl
plain_words v (a ∷ b ∷ ws) pattern = plain_if (is_comment a) Nothing (longer_line v a b ws pattern) refl
    (plain_if (bytes_eq b (codes "=")) (production v a ws) (statement a b ws pattern) (plain_production v a ws) (plain_statement a b ws pattern))

says_numbered : (n : ℕ) (l : Line) (s : Statement) → numbered n l ≡ Some s → l ≡ s.says
says_numbered n Nothing s e = cc
says_numbered n d s e = ap (λ (t : Statement). t.says) (some_same _ s e)

plain_lefts_in : (v : Version) (texts : List (List ℕ)) → HavePlainLefts (statements_in v texts)
plain_lefts_in v texts k s e =
    let c = comes_from (λ (t : ℕ × List ℕ). numbered t.0 (line_of v t.1)) (enumerate_from 2 texts) k s e in
    ap has_plain_left (sym (says_numbered c.item.0 (line_of v c.item.1) s c.gives)) ∙ plain_words v (words c.item.1) (after_equals c.item.1)

pub plain_lefts : (text : List ℕ) → HavePlainLefts (statements text)
plain_lefts text = plain_lefts_in (unwrap_or (version_of (lines text)) One) (drop 1 (lines text))

named_left : (ss : List Statement) → HavePlainLefts ss → (p : ℕ) (x : ProductionLine) → slice_get (productions ss) p ≡ Some x → is_name x.left ≡ true
named_left ss named p x e =
    let c = comes_from (λ s. as_production s.says) ss p x e in
    ap has_plain_left (sym (says_production c.item x c.gives)) ∙ named c.place c.item c.there

crossed : (ss : List Statement) → HavePlainLefts ss → (p q : ℕ) (x : ProductionLine) → slice_get (productions ss) p ≡ Some x → slice_get (flat_map added_lines (marked ss)) q ≡ Some x → ⊥
crossed ss named p q x a b =
    both_ways (is_marked x.left) (name_unmarked x.left (named_left ss named p x a)) (marked_word x.left ss (left_of_added (marked ss) q x b)).0

pub are_once : (ss : List Statement) → AreFaultless ss → HavePlainLefts ss → AreOnce (written_out ss)
are_once ss free named p q x a b =
    let first = met_in (productions ss) (flat_map added_lines (marked ss)) p x (ap (λ ps. slice_get ps p) (sym (productions_written ss)) ∙ a) in
    let second = met_in (productions ss) (flat_map added_lines (marked ss)) q x (ap (λ ps. slice_get ps q) (sym (productions_written ss)) ∙ b) in
    elim first [
      | inl here ↦ elim second [
        | inl there ↦ one_line ss free p q x here there
        | inr h ↦ let (k, is, there) = h in absurd (crossed ss named p k x here there)
      ]
      | inr g ↦ let (j, at, here) = g in elim second [
        | inl there ↦ absurd (crossed ss named q j x there here)
        | inr h ↦ let (k, is, there) = h in
            let same : j ≡ k = once_added (marked ss) (distinct_fold [] (filter is_marked (right_words ss)) tt) j k x here there in
            omega (arith, at, is, same)
      ]
    ]
