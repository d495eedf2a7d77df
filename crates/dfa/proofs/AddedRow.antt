-- One more row of the table.
use Rattle.dfa.proofs.Std.{◌≡◌, ℕ, zero, suc, ◌+◌, ◌-◌, ◌*◌, ◌<◌, ◌≤◌, Bool, true, List, [], ◌∷◌, ◌++◌, length, slice_index_or, get_or, Option, None, refl, sym, ap, ◌∙◌, subst, inl, inr, All, Contains, nat_le}
use Rattle.dfa.proofs.Std.{arith, unary_clauses, All-push, cases_lt, length-append, get_or_default, get_or_append_left, get_or-append_right, prefix_len-le-length, mul-add-lt, mul_comm}
use Rattle.dfa.proofs.Common.{Expression, IsText, IsCharacter}
use Rattle.dfa.proofs.Common.{representative, all_cuts, positions, StandsAt, next, all_next, all_holders, all_positions, first_end, successor, IsSetOf, AreMarksOf, Rises, part, IsAscending, IsFirst, IsTable, table_of}
use Rattle.dfa.proofs.Common.{IsReached, AreStates, Grows, IsNumber, kept, IsStateOf, LeadsTo, AreRows, ArePartsOf, AreEntries, AreRules, Tree, AreTreesOf}
use Rattle.dfa.proofs.SameClass.{stands_for}
use Rattle.dfa.proofs.HolderLists.{all_below, all_rise}
use Rattle.dfa.proofs.LastPositions.{below}
use Rattle.dfa.proofs.Sets.{among_from_at}
use Rattle.dfa.proofs.Steps.{length-next}
use Rattle.dfa.proofs.Successors.{successor_set, empty_set}
use Rattle.dfa.proofs.RuleLists.{accepts_first}

one_row : (s w : ℕ) → (s + 1) * w ≡ s * w + w
one_row s w =
    let e : w * (s + 1) ≡ w * s + w = simp unary_clauses refl in
    mul_comm (s + 1) w ∙ e ∙ ap (λ y. y + w) (mul_comm w s)

-- the positions of a state rise
pub states_rise : (rules : List Expression) (sets : List (List ℕ)) (s : ℕ) → AreStates rules sets → s < length sets → Rises 0 (slice_index_or sets s [])
states_rise rules sets zero a lt = subst (Rises 0) (sym a.start) tt
states_rise rules sets (suc s) a lt = (a.reached (suc s) (omega arith) lt).is.rises

-- they are positions of the rules
stands_below : (rules : List Expression) (p : ℕ) (u : List ℕ) → StandsAt rules p u → p < all_positions rules
stands_below [] p u h = elim h [ ]
stands_below (e ∷ es) p u (inl h) = omega (arith, below e p u h)
stands_below (e ∷ es) p u (inr h) = omega (arith, h.0, stands_below es (p - positions e) u h.1)

pub within_rules : (rules : List Expression) (sets : List (List ℕ)) (s : ℕ) → AreStates rules sets → s < length sets → (i : ℕ)
    → i < length (slice_index_or sets s []) → slice_index_or (slice_index_or sets s []) i 0 < all_positions rules
within_rules rules sets zero a lt i l = let n : length (slice_index_or sets 0 []) ≡ 0 = ap length a.start in absurd (omega (arith, n, l))
within_rules rules sets (suc s) a lt i l =
    let r = a.reached (suc s) (omega arith) lt in
    let p = slice_index_or (slice_index_or sets (suc s) []) i 0 in
    stands_below rules p r.text (r.is.only p (among_from_at (slice_index_or sets (suc s) []) i l))

-- and so do those that hold the characters of a part
pub parts_rise : (rules : List Expression) (starts : List ℕ) (parts : List (List ℕ)) → ArePartsOf rules starts parts → All (Rises 0) parts
parts_rise rules starts parts a k d lt =
    let e = a.each k (omega (arith, lt, a.many)) in
    subst (Rises 0) (sym (get_or_default parts k d [] lt ∙ e)) (all_rise rules (representative starts k) 0)

-- they are positions of the rules
pub within_parts : (rules : List Expression) (starts : List ℕ) (parts : List (List ℕ)) (n : ℕ) → ArePartsOf rules starts parts → n ≡ all_positions rules → (k i : ℕ)
    → k < length parts → i < length (slice_index_or parts k []) → slice_index_or (slice_index_or parts k []) i 0 < n
within_parts rules starts parts n a many k i lt l =
    let e = a.each k (omega (arith, lt, a.many)) in
    let c = representative starts k in
    let w : i < length (all_holders c 0 rules) = subst (λ (x : List ℕ). i < length x) e l in
    let inside : slice_index_or (slice_index_or parts k []) i 0 < all_positions rules = subst (λ (x : List ℕ). slice_index_or x i 0 < all_positions rules) (sym e)
    (all_below rules c (slice_index_or (all_holders c 0 rules) i 0) (among_from_at (all_holders c 0 rules) i w)) in
    omega (arith, many, inside)

pub length-all_next : (rules : List Expression) (marks : List Bool) (o : ℕ) (start : Bool) → length (all_next marks o start rules) ≡ all_positions rules
length-all_next [] marks o start = refl
length-all_next (e ∷ es) marks o start =
    omega (arith, length-append (next marks o start e) (all_next marks (o + positions e) start es), length-next e marks o start, length-all_next es marks (o + positions e) start)

zero_is : IsCharacter 0
zero_is = inl (omega arith)

pub representative_is : (starts : List ℕ) (k : ℕ) → All IsCharacter starts → k ≤ length starts → IsCharacter (representative starts k)
representative_is starts zero h le = zero_is
representative_is starts (suc k) h le = h k 0 (omega (arith, le))

text_more : (u : List ℕ) (c : ℕ) → IsText u → IsCharacter c → IsText (u ++ c ∷ [])
text_more u c t is = All-push IsCharacter u c t is

-- where a state leads is the set of a text
pub reached_next : (rules : List Expression) (sets : List (List ℕ)) (s : ℕ) (marks : List Bool) (start : Bool) (c : ℕ) → AreStates rules sets → s < length sets
    → AreMarksOf (slice_index_or sets s []) marks → (start ≡ true → s ≡ 0) → (s ≡ 0 → start ≡ true) → IsCharacter c → IsReached rules (successor rules marks start c)
reached_next rules sets zero marks start c a lt m f g is = record {
  text = c ∷ [];
  is_text = text_more [] c (λ k d l. absurd (omega (arith, l))) is;
  nonempty = omega arith;
  is = successor_set rules [] (slice_index_or sets 0 []) marks start c is (λ _. refl) (λ _. g refl) (subst (IsSetOf rules []) (sym a.start) (empty_set rules)) m;
}
reached_next rules sets (suc s) marks start c a lt m f g is =
    let r = a.reached (suc s) (omega arith) lt in record {
      text = r.text ++ c ∷ [];
      is_text = text_more r.text c r.is_text is;
      nonempty = omega (arith, length-append r.text (c ∷ []));
      is = successor_set rules r.text (slice_index_or sets (suc s) []) marks start c is (λ e. absurd (omega (arith, f e)))
          (λ e. let n : length r.text ≡ 0 = ap length e in absurd (omega (arith, n, r.nonempty))) r.is m;
    }

module _ (rules : List Expression) (starts : List ℕ) (parts : List (List ℕ)) (a : ArePartsOf rules starts parts) where
  -- the entry of a part leads on at each of its characters
  leads : (sets : List (List ℕ)) (s k n : ℕ) (set : List ℕ) (marks : List Bool) (start : Bool) → slice_index_or sets s [] ≡ set → AreMarksOf set marks
      → (start ≡ true → s ≡ 0) → (s ≡ 0 → start ≡ true) → k ≤ length starts → IsNumber sets n (kept (all_next marks 0 start rules) (slice_index_or parts k [])) → LeadsTo rules starts sets s k n
  leads sets s k n set marks start same m f g le h = (
    h.0,
    λ c u is of st.
        let x = successor_set rules u set marks start c is (λ e. st.first (f e)) (λ e. g (st.begins e)) (subst (IsSetOf rules u) same st.is) m in
        let rep : IsCharacter (representative starts (part starts c)) = representative_is starts (part starts c) a.characters (prefix_len-le-length (λ y. nat_le y c) starts) in
        let e : all_holders c 0 rules ≡ slice_index_or parts k [] = stands_for rules starts c a.ascending a.cuts is rep
        ∙ ap (λ j. all_holders (representative starts j) 0 rules) of ∙ sym (a.each k le) in
        subst (IsSetOf rules (u ++ c ∷ [])) (ap (kept (all_next marks 0 start rules)) e ∙ sym h.1) x,
  )

  state_back : (sets new : List (List ℕ)) (s : ℕ) (u : List ℕ) → Grows sets new → s < length sets → IsStateOf rules new s u → IsStateOf rules sets s u
  state_back sets new s u g lt st = record { is = subst (IsSetOf rules u) (g.same s lt) st.is; first = st.first; begins = st.begins }

  leads_grows : (sets new : List (List ℕ)) (s k n : ℕ) → Grows sets new → s < length sets → LeadsTo rules starts sets s k n → LeadsTo rules starts new s k n
  leads_grows sets new s k n g lt h = (omega (arith, h.0, g.longer), λ c u is of st. subst (IsSetOf rules (u ++ c ∷ [])) (sym (g.same n h.0)) (h.1 c u is of (state_back sets new s u g lt st)))

  pub rows_more : (sets new : List (List ℕ)) (next later : List ℕ) (accepts : List (Option ℕ)) (rule : Option ℕ) (marks : List Bool) (start : Bool)
      → AreRows rules starts sets next accepts → length accepts < length sets → AreStates rules new → Grows sets new → length new ≤ 4096
      → AreMarksOf (slice_index_or sets (length accepts) []) marks → (start ≡ true → length accepts ≡ 0) → (length accepts ≡ 0 → start ≡ true)
      → AreEntries next later new (all_next marks 0 start rules) parts (length parts) → rule ≡ first_end marks 0 0 rules → AreRows rules starts new later (accepts ++ rule ∷ [])
  rows_more sets new next later accepts rule marks start r lt states g bound m f b n is =
      let s = length accepts in
      let w = length starts + 1 in
      let many : length (accepts ++ rule ∷ []) ≡ s + 1 = length-append accepts (rule ∷ []) in
      let row = one_row s w in
      record {
        states = states;
        bound = bound;
        rows = omega (arith, many, lt, g.longer);
        filled = n.many ∙ ap (λ x. x + length parts) r.filled ∙ ap (λ x. s * w + x) a.many ∙ sym row ∙ ap (λ x. x * w) (sym many);
        entries = λ t k l le. elim (cases_lt t s) [
          | inl x ↦
              let inside : t * w + k < length next = omega (arith, mul-add-lt t w k s x (omega (arith, le)), mul_comm s w, r.filled) in
              subst (λ (z : ℕ). LeadsTo rules starts new t k z) (sym (n.same (t * w + k) inside))
              (leads_grows sets new t k (slice_index_or next (t * w + k) 0) g (omega (arith, x, lt)) (r.entries t k x le))
          | inr x ↦
              let e : t ≡ s = omega (arith, x, l, many) in
              let at : t * w + k ≡ length next + k = ap (λ y. y * w + k) e ∙ ap (λ y. y + k) (sym r.filled) in
              let h = n.each k (omega (arith, le, a.many)) in
              subst (λ (z : ℕ). LeadsTo rules starts new z k (slice_index_or later (t * w + k) 0)) (sym e)
              (subst (λ (z : ℕ). LeadsTo rules starts new s k (slice_index_or later z 0)) (sym at)
              (leads new s k (slice_index_or later (length next + k) 0) (slice_index_or sets s []) marks start (g.same s lt) m f b le h))
        ];
        accepting = λ t u l some st. elim (cases_lt t s) [
          | inl x ↦ subst (IsFirst rules u) (sym (get_or_append_left accepts (rule ∷ []) None t x)) (r.accepting t u x some (state_back sets new t u g (omega (arith, x, lt)) st))
          | inr x ↦
              let e : t ≡ s = omega (arith, x, l, many) in
              let z : t - s ≡ 0 = omega (arith, e) in
              let is_rule : get_or (accepts ++ rule ∷ []) t None ≡ first_end marks 0 0 rules = get_or-append_right accepts (rule ∷ []) s t None refl x ∙ ap (λ j. get_or (rule ∷ []) j None) z ∙ is in
              let st' : IsStateOf rules new s u = subst (λ (j : ℕ). IsStateOf rules new j u) e st in
              subst (IsFirst rules u) (sym is_rule) (accepts_first rules u (slice_index_or sets s []) marks (state_back sets new s u g lt st').is m some)
        ];
      }

-- where each part leads from a state is the set of a text
pub reached_parts : (rules : List Expression) (starts : List ℕ) (parts sets : List (List ℕ)) (s : ℕ) (set : List ℕ) (marks follow : List Bool) (start : Bool)
    → ArePartsOf rules starts parts → AreStates rules sets → s < length sets → slice_index_or sets s [] ≡ set → AreMarksOf set marks → (start ≡ true → s ≡ 0)
    → (s ≡ 0 → start ≡ true) → kept follow ≡ kept (all_next marks 0 start rules) → (k : ℕ) → k < length parts → IsReached rules (kept follow (slice_index_or parts k []))
reached_parts rules starts parts sets s set marks follow start a states lt same m f g is k l =
    let le : k ≤ length starts = omega (arith, l, a.many) in
    let e : kept follow (slice_index_or parts k []) ≡ successor rules marks start (representative starts k) = (λ i. is i (a.each k le i)) in
    subst (IsReached rules) (sym e) (reached_next rules sets s marks start (representative starts k) states lt
    (subst (λ x. AreMarksOf x marks) (sym same) m) f g (representative_is starts k a.characters le))

entries_same : (old later : List ℕ) (sets : List (List ℕ)) (one two : List Bool) (parts : List (List ℕ)) (n : ℕ) → kept one ≡ kept two
    → AreEntries old later sets one parts n → AreEntries old later sets two parts n
entries_same old later sets one two parts n e a = record {
  many = a.many;
  same = a.same;
  each = λ k lt. subst (IsNumber sets (slice_index_or later (length old + k) 0)) (λ i. e i (slice_index_or parts k [])) (a.each k lt);
}

pub rows_made : (rules : List Expression) (starts : List ℕ) (parts sets new : List (List ℕ)) (old later : List ℕ) (accepts : List (Option ℕ)) (rule : Option ℕ)
    (set : List ℕ) (marks follow : List Bool) (start : Bool) → ArePartsOf rules starts parts → AreRows rules starts sets old accepts → length accepts < length sets
    → AreStates rules new → Grows sets new → length new ≤ 4096 → slice_index_or sets (length accepts) [] ≡ set → AreMarksOf set marks → (start ≡ true → length accepts ≡ 0)
    → (length accepts ≡ 0 → start ≡ true) → kept follow ≡ kept (all_next marks 0 start rules) → AreEntries old later new follow parts (length parts)
    → rule ≡ first_end marks 0 0 rules → AreRows rules starts new later (accepts ++ rule ∷ [])
rows_made rules starts parts sets new old later accepts rule set marks follow start a r lt states g bound same m f b is n e =
    rows_more rules starts parts a sets new old later accepts rule marks start r lt states g bound (subst (λ x. AreMarksOf x marks) (sym same) m) f b
    (entries_same old later new follow (all_next marks 0 start rules) parts (length parts) is n) e

-- before the first row
pub rows_none : (rules : List Expression) (starts : List ℕ) (sets : List (List ℕ)) (old : List ℕ) (accepts : List (Option ℕ)) → AreStates rules sets
    → length sets ≡ 1 → old ≡ [] → accepts ≡ [] → AreRows rules starts sets old accepts
rows_none rules starts sets old accepts s one e f =
    let many : length accepts ≡ 0 = ap length f in
    let z : 0 * (length starts + 1) ≡ 0 = omega arith in
    record {
      states = s;
      bound = omega (arith, one);
      rows = omega (arith, one, many);
      filled = ap length e ∙ sym z ∙ ap (λ (n : ℕ). n * (length starts + 1)) (sym many);
      entries = λ t k l le. absurd (omega (arith, l, many));
      accepting = λ t u l some st. absurd (omega (arith, l, many));
    }

-- rows of all states make a table in range
pub table_of_rows : (rules : List Expression) (starts : List ℕ) (sets : List (List ℕ)) (old : List ℕ) (accepts : List (Option ℕ)) → IsAscending starts
    → AreRows rules starts sets old accepts → length sets ≤ length accepts → IsTable (table_of starts old accepts)
table_of_rows rules starts sets old accepts up r all = record {
  begins = omega (arith, r.states.begins, all);
  bound = omega (arith, r.rows, r.bound);
  filled = r.filled;
  inside = λ s k l m. omega (arith, (r.entries s k l (omega (arith, m))).0, all);
  ordered = up;
}

-- the trees and the holders, as the builder makes them
pub rules_are : (rules : List Expression) (starts : List ℕ) (trees seen : List Tree) (parts shown : List (List ℕ)) → seen ≡ trees → shown ≡ parts → AreTreesOf rules trees
    → length parts ≡ length starts + 1 → ((k : ℕ) → k ≤ length starts → slice_index_or parts k [] ≡ all_holders (representative starts k) 0 rules) → IsAscending starts
    → ((x : ℕ) → Contains (all_cuts rules) x → Contains starts x) → All IsCharacter starts → AreRules rules starts seen shown
rules_are rules starts trees seen parts shown e f are many each up cuts characters =
    subst (λ x. AreRules rules starts x shown) (sym e) (subst (AreRules rules starts trees) (sym f) (record {
      trees_are = are;
      parts_are = record { many = many; each = each; ascending = up; cuts = cuts; characters = characters };
    }))
