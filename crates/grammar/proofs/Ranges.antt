-- The numbers of a file's names are in range.
use Rattle.grammar.proofs.Std.{◌≡◌, inl, inr, ℕ, zero, suc, ◌<◌, ◌≤◌, Bool, true, false, ◌&&◌, ◌||◌, List, [], ◌∷◌, ◌++◌, refl, ap, sym, ◌∙◌, length, subst, if◌then◌else◌, not, nat_lt, Some, None, map, slice_get, slice_index_or, All, chars, list_any, fold, bytes_eq}
use Rattle.grammar.proofs.Std.{arith, list_any-append, length-map, All-nil, All-cons, not-false, or-true, or_parts}
use Rattle.grammar.proofs.Common.{Symbol, Nonterminal, Expression, HasProduction, IsProductive}
use Rattle.grammar.proofs.Common.{FileGrammar, IsUsable, IsKnown, IsGrammar, AreBelow, grammar_with, first_of, rule_names, symbol_of, production_of, is_fold, grammar_of}
use Rattle.grammar.proofs.Common.{ArePatterns, RuleLine, ProductionLine, as_production, as_start, productions, starts, nonterminals, with_name, is_among, number_of, HaveReferents, symbol_fault, right_fault, reference_fault, NotANonterminal, is_skip_rule, has_rule, list_any-map, rules}
use Rattle.grammar.proofs.Common.{Word, plain, Statement, Line, Nothing, Production, Rule, Start, Fold, Bad}
use Rattle.grammar.proofs.Lefts.{bytes_eq_same}
use Rattle.grammar.proofs.Numbered.{AllNamed, AreNamed, AreOnce, comes_from, says_production, not_shown, number_below, number_at, nonterminal_is, terminal_is, IsMadeFrom, made_from, distinct}

kept : (w x : Word) (names : List Word) → is_among w names ≡ true → is_among w (with_name names x) ≡ true
kept w x names h =
    elim (is_among x names) as (λ t. is_among w (if t then names else names ++ x ∷ []) ≡ true)
    [ true ↦ h | false ↦ list_any-append (λ v. bytes_eq v w) names (x ∷ []) ∙ ap (λ b. b || is_among w (x ∷ [])) h ]

pub names_added : (x : Word) (names : List Word) → is_among x (with_name names x) ≡ true
names_added x names = go (is_among x names) refl
  where
    go : (b : Bool) → is_among x names ≡ b → is_among x (with_name names x) ≡ true
    go true e = rw e e
    go false e = rw e (list_any-append (λ v. bytes_eq v x) names (x ∷ []) ∙ ap (λ b. is_among x names || (b || false)) (bytes_eq_same x) ∙ or-true (is_among x names))

pub fold_keeps : (w : Word) (names ws : List Word) → is_among w names ≡ true → is_among w (fold with_name names ws) ≡ true
fold_keeps w names [] h = h
fold_keeps w names (x ∷ ws) h = fold_keeps w (with_name names x) ws (kept w x names h)

fold_adds : (w : Word) (names ws : List Word) (k : ℕ) → slice_get ws k ≡ Some w → is_among w (fold with_name names ws) ≡ true
fold_adds w names [] k e = cc
fold_adds w names (x ∷ ws) zero e = let same : x ≡ w = cc in fold_keeps w (with_name names x) ws (subst (λ v. is_among v (with_name names x) ≡ true) same (names_added x names))
fold_adds w names (x ∷ ws) (suc k) e = fold_adds w (with_name names x) ws k e

get_map : (xs : List ProductionLine) (k : ℕ) (x : ProductionLine) → slice_get xs k ≡ Some x → slice_get (map (λ p. p.left) xs) k ≡ Some x.left
get_map [] k x e = cc
get_map (y ∷ ys) zero x e = let same : y ≡ x = cc in ap (λ z. Some z.left) same
get_map (y ∷ ys) (suc k) x e = get_map ys k x e

left_among : (ss : List Statement) (p : ℕ) (x : ProductionLine) → slice_get (productions ss) p ≡ Some x → is_among x.left (nonterminals ss) ≡ true
left_among ss p x e = fold_adds x.left [] (map (λ q. q.left) (productions ss)) p (get_map (productions ss) p x e)

-- the left sides are numbers of nonterminals
pub lefts_below : (ss : List Statement) → AreBelow (grammar_of ss).productions (length (nonterminals ss))
lefts_below ss p x there =
    let m = made_from (production_of (nonterminals ss) (rule_names ss)) (productions ss) p x there in
    let below : number_of m.item.left (nonterminals ss) < length (nonterminals ss) = number_below m.item.left (nonterminals ss) (left_among ss p m.item m.there) in
    omega (arith, below, ap (λ y. y.left) m.is)

-- a name without a fault is a nonterminal's, or a rule's that isn't skipped
pub data IsFine (ss : List Statement) (w : Word) : Type 0 where
  Of_nonterminal : is_among w (nonterminals ss) ≡ true → IsFine ss w
  Of_rule : is_among w (nonterminals ss) ≡ false → list_any (is_skip_rule w) (rules ss) ≡ false → is_among w (rule_names ss) ≡ true → IsFine ss w

pub is_fine : (ss : List Statement) (w : Word) → symbol_fault ss w ≡ None → IsFine ss w
is_fine ss w h = go (is_among w (nonterminals ss)) (list_any (is_skip_rule w) (rules ss)) (has_rule ss w) refl refl refl
  where
    go : (a b c : Bool) → is_among w (nonterminals ss) ≡ a → list_any (is_skip_rule w) (rules ss) ≡ b → has_rule ss w ≡ c → IsFine ss w
    go true b c e f g = Of_nonterminal e
    go false true c e f g = let bad = (rw (e, f) at h) in cc
    go false false true e f g = Of_rule e f (list_any-map (λ v. bytes_eq v w) (λ r. r.name) (rules ss) ∙ g)
    go false false false e f g = let bad = (rw (e, f, g) at h) in cc

-- each name of a right side is fine
abbrev pub AllFine : List Statement → List Word → Type 0
AllFine ss [] = Unit {0}
AllFine ss (w ∷ ws) = IsFine ss w × AllFine ss ws

abbrev pub AreFine : List Statement → Type 0
AreFine ss = (p : ℕ) (x : ProductionLine) → slice_get (productions ss) p ≡ Some x → AllFine ss x.right

abbrev pub AreShort : List Statement → Type 0
AreShort ss = (p : ℕ) (x : ProductionLine) → slice_get (productions ss) p ≡ Some x → length x.right ≤ 16

all_named : (ss : List Statement) (ws : List Word) → AllFine ss ws → AllNamed (nonterminals ss) (rule_names ss) ws
all_named ss [] fine = tt
all_named ss (w ∷ ws) fine = (elim fine.0 [ Of_nonterminal a ↦ inl a | Of_rule a b c ↦ inr (a, c) ], all_named ss ws fine.1)

pub right_faultless : (ss : List Statement) → HaveReferents ss ss → (p : ℕ) (x : ProductionLine) → slice_get (productions ss) p ≡ Some x → right_fault ss (map plain x.right) ≡ None
right_faultless ss refers p x e =
    let c = comes_from (λ s. as_production s.says) ss p x e in
    subst (λ l. reference_fault ss l ≡ None) (says_production c.item x c.gives) (refers c.place c.item c.there)

pub named : (ss : List Statement) → AreFine ss → AreNamed ss
named ss fine p x e = (left_among ss p x e, all_named ss x.right (fine p x e))

says_start : (s : Statement) (w : Word) → as_start s.says ≡ Some w → s.says ≡ Start w
says_start s w h = go s.says h
  where
    go : (l : Line) → as_start l ≡ Some w → l ≡ Start w
    go Nothing e = cc
    go (Production left right) e = cc
    go (Rule skip name pattern) e = cc
    go (Start name) e = let same : name ≡ w = cc in ap Start same
    go (Fold name) e = cc
    go Bad e = cc

and_true_false : (b : Bool) → (b && true) ≡ false → b ≡ false
and_true_false true h = cc
and_true_false false h = refl

-- the start stands among the nonterminals
start_line : (ss : List Statement) (w : Word) (rest : List Word) → starts ss ≡ w ∷ rest → (k : ℕ) × (s : Statement) × (slice_get ss k ≡ Some s) × (s.says ≡ Start w)
start_line ss w rest e =
    let first : slice_get (starts ss) 0 ≡ Some w = ap (λ ws. slice_get ws 0) e in
    let c = comes_from (λ s. as_start s.says) ss 0 w first in
    (c.place, c.item, c.there, says_start c.item w c.gives)

first_among : (ss : List Statement) → HaveReferents ss ss → (ws : List Word) → starts ss ≡ ws → nat_lt 0 (length ws) ≡ true → is_among (first_of ws) (nonterminals ss) ≡ true
first_among ss refers [] e h = cc
first_among ss refers (w ∷ rest) e h =
    let (k, s, there, says) = start_line ss w rest e in
    let fine : reference_fault ss (Start w) ≡ None = subst (λ l. reference_fault ss l ≡ None) says (refers k s there) in
    not-false (is_among w (nonterminals ss)) (not_shown (not (is_among w (nonterminals ss))) (NotANonterminal w) fine)

pub start_among : (ss : List Statement) → HaveReferents ss ss → nat_lt 0 (length (starts ss)) ≡ true → is_among (first_of (starts ss)) (nonterminals ss) ≡ true
start_among ss refers h = first_among ss refers (starts ss) refl h

-- a rule that isn't skipped, at its number
not_skipped_at : (rs : List RuleLine) (w : Word) (k : ℕ) → list_any (is_skip_rule w) rs ≡ false → slice_get (map (λ r. r.name) rs) k ≡ Some w → slice_index_or (map (λ r. r.skip) rs) k false ≡ false
not_skipped_at [] w k h e = refl
not_skipped_at (r ∷ rs) w zero h e =
    let same : r.name ≡ w = cc in
    let none : is_skip_rule w r ≡ false = (or_parts (is_skip_rule w r) (list_any (is_skip_rule w) rs) h).0 in
    let skip : (r.skip && true) ≡ false = ap (λ b. r.skip && b) (sym (ap (bytes_eq r.name) (sym same) ∙ bytes_eq_same r.name)) ∙ none in
    and_true_false r.skip skip
not_skipped_at (r ∷ rs) w (suc k) h e = not_skipped_at rs w k (or_parts (is_skip_rule w r) (list_any (is_skip_rule w) rs) h).1 e

-- what the statements define
module _ (ss : List Statement) (es : List Expression) (symbols : List Symbol) where
  abbrev f : FileGrammar
  f = grammar_with ss es symbols

  patterns_long : (rs : List RuleLine) (xs : List Expression) → ArePatterns rs xs → length xs ≡ length rs
  patterns_long [] [] h = refl
  patterns_long (r ∷ rs) (x ∷ xs) h = ap suc (patterns_long rs xs h.1)
  patterns_long rs xs h = absurd h

  many_rules : length f.names ≡ length (rules ss)
  many_rules = length-map (rule_names ss) chars ∙ length-map (rules ss) (λ r. r.name)

  many_nonterminals : length f.nonterminals ≡ length (nonterminals ss)
  many_nonterminals = length-map (nonterminals ss) chars

  usable : (w : Word) → IsFine ss w → IsUsable f (symbol_of (nonterminals ss) (rule_names ss) w)
  usable w (Of_nonterminal a) = subst (IsUsable f) (sym (nonterminal_is (nonterminals ss) (rule_names ss) w a))
      (let below : number_of w (nonterminals ss) < length (nonterminals ss) = number_below w (nonterminals ss) a in omega (arith, below, many_nonterminals))
  usable w (Of_rule a b c) = subst (IsUsable f) (sym (terminal_is (nonterminals ss) (rule_names ss) w a)) (
    (let below : number_of w (rule_names ss) < length (rule_names ss) = number_below w (rule_names ss) c in omega (arith, below, length-map (rule_names ss) chars)),
    not_skipped_at (rules ss) w (number_of w (rule_names ss)) b (number_at w (rule_names ss) c),
  )

  all_usable : (ws : List Word) → AllFine ss ws → All (IsUsable f) (map (symbol_of (nonterminals ss) (rule_names ss)) ws)
  all_usable [] fine = All-nil (IsUsable f)
  all_usable (w ∷ ws) fine = All-cons (IsUsable f) (symbol_of (nonterminals ss) (rule_names ss) w) (map (symbol_of (nonterminals ss) (rule_names ss)) ws) (usable w fine.0) (all_usable ws fine.1)

  module _ (once : AreOnce ss) (fine : AreFine ss) (short : AreShort ss) (started : is_among (first_of (starts ss)) (nonterminals ss) ≡ true)
      (few_rules : length (rules ss) ≤ 256) (few_nonterminals : length (nonterminals ss) ≤ 256) (few_productions : length (productions ss) ≤ 1024)
      (patterned : ArePatterns (rules ss) es) (productive : (n : ℕ) → n < length (nonterminals ss) → IsProductive (grammar_of ss) (Nonterminal n)) (are_known : All (IsKnown f) symbols) where
    from_line : (p n : ℕ) (right : List Symbol) → HasProduction (grammar_of ss) p n right
        → IsMadeFrom (production_of (nonterminals ss) (rule_names ss)) (productions ss) p (record { left = n; right = right })
    from_line p n right h = made_from (production_of (nonterminals ss) (rule_names ss)) (productions ss) p (record { left = n; right = right }) h

    pub is_grammar : IsGrammar f
    is_grammar = record {
      rules = sym many_rules;
      patterns = patterns_long (rules ss) es patterned ∙ sym many_rules;
      skips = length-map (rules ss) (λ r. r.skip) ∙ sym many_rules;
      folds = length-map (nonterminals ss) (λ w. is_fold w ss) ∙ sym many_nonterminals;
      few_rules = omega (arith, few_rules, many_rules);
      few_nonterminals = omega (arith, few_nonterminals, many_nonterminals);
      few_productions = omega (arith, few_productions, length-map (productions ss) (production_of (nonterminals ss) (rule_names ss)));
      start = let below : number_of (first_of (starts ss)) (nonterminals ss) < length (nonterminals ss) =
          number_below (first_of (starts ss)) (nonterminals ss) started in omega (arith, below, many_nonterminals);
      left = λ p n right h.
          let m = from_line p n right h in
          let below : number_of m.item.left (nonterminals ss) < length (nonterminals ss) = number_below m.item.left (nonterminals ss) (left_among ss p m.item m.there) in
          let is : number_of m.item.left (nonterminals ss) ≡ n = ap (λ x. x.left) m.is in
          omega (arith, below, is, many_nonterminals);
      right = λ p n right h.
          let m = from_line p n right h in
          subst (λ ys. All (IsUsable f) ys) (ap (λ x. x.right) m.is) (all_usable m.item.right (fine p m.item m.there));
      short = λ p n right h.
          let m = from_line p n right h in
          let is : map (symbol_of (nonterminals ss) (rule_names ss)) m.item.right ≡ right = ap (λ x. x.right) m.is in
          omega (arith, short p m.item m.there, ap length is, length-map m.item.right (symbol_of (nonterminals ss) (rule_names ss)));
      distinct = distinct ss once (named ss fine);
      productive = λ n l. productive n (omega (arith, l, many_nonterminals));
      defined = are_known;
    }
