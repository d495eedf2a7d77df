-- The states as their list grows.
use Rattle.dfa.proofs.Std.{◌≡◌, ℕ, ◌+◌, ◌-◌, ◌<◌, Bool, List, [], ◌∷◌, ◌++◌, length, slice_index_or, get_or, refl, sym, ap, ◌∙◌, subst, inl, inr, arith, cases_lt, length-append, get_or_append_left, get_or-append_right}
use Rattle.dfa.proofs.Common.{Expression, IsReached, AreStates, Placed, Grows, IsNumber, kept, AreEntries}

pub grows_none : (sets : List (List ℕ)) → Grows sets sets
grows_none sets = record { longer = omega arith; same = λ i lt. refl }

pub grows_more : (x y z : List (List ℕ)) → Grows x y → Grows y z → Grows x z
grows_more x y z g h = record { longer = omega (arith, g.longer, h.longer); same = λ i lt. h.same i (omega (arith, lt, g.longer)) ∙ g.same i lt }

pub placed_grows : (old new : List (List ℕ)) (set : List ℕ) → Placed old new set → Grows old new
placed_grows old new set (inl e) = subst (Grows old) (sym e) (grows_none old)
placed_grows old new set (inr p) = subst (Grows old) (sym p.0) (record { longer = omega (arith, length-append old (set ∷ [])); same = λ i lt. get_or_append_left old (set ∷ []) [] i lt })

last_is : (old : List (List ℕ)) (set : List ℕ) (i : ℕ) → length old ≡ i → slice_index_or (old ++ set ∷ []) i [] ≡ set
last_is old set i e = let z : i - length old ≡ 0 = omega (arith, e) in get_or-append_right old (set ∷ []) (length old) i [] refl (omega (arith, e)) ∙ ap (λ j. get_or (set ∷ []) j []) z

pub placed_states : (rules : List Expression) (old new : List (List ℕ)) (set : List ℕ) → AreStates rules old → IsReached rules set → Placed old new set → AreStates rules new
placed_states rules old new set s r (inl e) = subst (AreStates rules) (sym e) s
placed_states rules old new set s r (inr p) =
    let prefix : (i : ℕ) → i < length old → slice_index_or (old ++ set ∷ []) i [] ≡ slice_index_or old i [] = λ i lt. get_or_append_left old (set ∷ []) [] i lt in
    let many : length (old ++ set ∷ []) ≡ length old + 1 = length-append old (set ∷ []) in
    subst (AreStates rules) (sym p.0) (record {
      begins = omega (arith, many);
      start = prefix 0 s.begins ∙ s.start;
      distinct = λ i j l k e. elim (cases_lt j (length old)) [
        | inl x ↦ s.distinct i j l x (sym (prefix i (omega (arith, l, x))) ∙ e ∙ prefix j x)
        | inr x ↦
            let w : i < length old = omega (arith, l, k, many) in
            p.1 i w (sym (prefix i w) ∙ e ∙ last_is old set j (omega (arith, x, k, many)))
      ];
      reached = λ i l k. elim (cases_lt i (length old)) [
        | inl x ↦ subst (IsReached rules) (sym (prefix i x)) (s.reached i l x)
        | inr x ↦ subst (IsReached rules) (sym (last_is old set i (omega (arith, x, k, many)))) r
      ];
    })

pub number_grows : (old new : List (List ℕ)) (n : ℕ) (set : List ℕ) → Grows old new → IsNumber old n set → IsNumber new n set
number_grows old new n set g h = (omega (arith, h.0, g.longer), g.same n h.0 ∙ h.1)

pub entries_none : (old : List ℕ) (sets : List (List ℕ)) (marks : List Bool) (parts : List (List ℕ)) → AreEntries old old sets marks parts 0
entries_none old sets marks parts = record { many = omega arith; same = λ i lt. refl; each = λ k lt. absurd (omega (arith, lt)) }

pub entries_more : (old next later : List ℕ) (sets grown : List (List ℕ)) (marks : List Bool) (parts : List (List ℕ)) (n to : ℕ) → AreEntries old next sets marks parts n
    → Grows sets grown → later ≡ next ++ to ∷ [] → IsNumber grown to (kept marks (slice_index_or parts n [])) → AreEntries old later grown marks parts (n + 1)
entries_more old next later sets grown marks parts n to a g e h =
    subst (λ (l : List ℕ). AreEntries old l grown marks parts (n + 1)) (sym e) (record {
      many = omega (arith, length-append next (to ∷ []), a.many);
      same = λ i lt. get_or_append_left next (to ∷ []) 0 i (omega (arith, lt, a.many)) ∙ a.same i lt;
      each = λ k lt. elim (cases_lt k n) [
        | inl x ↦ subst (λ (m : ℕ). IsNumber grown m (kept marks (slice_index_or parts k []))) (sym (get_or_append_left next (to ∷ []) 0 (length old + k) (omega (arith, x, a.many))))
            (number_grows sets grown (slice_index_or next (length old + k) 0) (kept marks (slice_index_or parts k [])) g (a.each k x))
        | inr x ↦
            let k_is : n ≡ k = omega (arith, x, lt) in
            let z : length old + k - length next ≡ 0 = omega (arith, a.many, k_is) in
            let f : slice_index_or (next ++ to ∷ []) (length old + k) 0 ≡ to = get_or-append_right next (to ∷ []) (length next)
            (length old + k) 0 refl (omega (arith, a.many, k_is)) ∙ ap (λ j. get_or (to ∷ []) j 0) z in
            subst (λ (m : ℕ). IsNumber grown m (kept marks (slice_index_or parts k []))) (sym f) (subst (λ (j : ℕ). IsNumber grown to (kept marks (slice_index_or parts j []))) k_is h)
      ];
    })
