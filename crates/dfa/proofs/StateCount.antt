-- The number of states: texts with different sets of positions have different states.
use Rattle.dfa.proofs.Std.{◌≡◌, ℕ, zero, suc, ◌+◌, ◌-◌, Option, ◌<◌, ◌≤◌, ◌⊎◌, List, [], ◌∷◌, ◌++◌, length, slice_index_or, get_or, refl, sym, ap, ◌∙◌, subst, inl, inr, All, AllPairs}
use Rattle.dfa.proofs.Std.{arith, add-one, cases_lt, length-append, get_or_default, get_or_append_left, get_or-append_right, All-push, all_pairs_push}
use Rattle.dfa.proofs.Std.{Into, OneToOne, pigeonhole}
use Rattle.dfa.proofs.Common.{Expression, StandsAt, HasPosition, HaveSamePositions, HasMoreStatesThan, AllMade, IsSetOf, table_of, state_after, AreStates, AreRows}
use Rattle.dfa.proofs.CompleteTable.{some_member, shows, at_state, same_positions}
use Rattle.dfa.proofs.Successors.{set_unique}

module _ (rules : List Expression) (starts : List ℕ) (sets : List (List ℕ)) (next : List ℕ) (accepts : List (Option ℕ)) (made : AllMade rules)
    (r : AreRows rules starts sets next accepts) (all : length sets ≤ length accepts) where
  state_of : (texts : List (List ℕ)) → All (HasPosition rules) texts → (k : ℕ) → k < length texts → (s : ℕ) × (s + 1 < length sets)
      × IsSetOf rules (slice_index_or texts k []) (slice_index_or sets (s + 1) [])
  state_of texts h k lt =
      let u = slice_index_or texts k [] in
      let p = h k [] lt in
      at_state rules starts sets next accepts made r all u (state_after (table_of starts next accepts) u) p (shows rules starts sets next accepts made r all u p.text)

  -- the state's number, less one, or 0 past the end of the texts
  number_of : (texts : List (List ℕ)) → All (HasPosition rules) texts → (k : ℕ) → ((k < length texts) ⊎ (length texts ≤ k)) → ℕ
  number_of texts h k (inl lt) = (state_of texts h k lt).0
  number_of texts h k (inr le) = 0

  number_below : (texts : List (List ℕ)) (h : All (HasPosition rules) texts) (k : ℕ) (side : (k < length texts) ⊎ (length texts ≤ k)) → k < length texts → number_of texts h k side + 1 < length sets
  unfolding number_of state_of
  number_below texts h k (inl l) lt = (state_of texts h k l).1
  number_below texts h k (inr l) lt = absurd (omega (arith, l, lt))

  number_set : (texts : List (List ℕ)) (h : All (HasPosition rules) texts) (k : ℕ) (side : (k < length texts) ⊎ (length texts ≤ k)) → k < length texts
      → IsSetOf rules (slice_index_or texts k []) (slice_index_or sets (number_of texts h k side + 1) [])
  unfolding number_of state_of
  number_set texts h k (inl l) lt = (state_of texts h k l).2
  number_set texts h k (inr l) lt = absurd (omega (arith, l, lt))

  pub few : HasMoreStatesThan rules 4096 → ⊥
  few m =
      let texts = m.0 in
      let number : ℕ → ℕ = λ k. number_of texts m.2 k (cases_lt k (length texts)) in
      let differ : (i j : ℕ) → i < j → j < 4096 → number i ≡ number j → ⊥ = λ i j l k e.
      let within : j < length texts = omega (arith, k, m.1) in
      let one = number_set texts m.2 i (cases_lt i (length texts)) (omega (arith, l, within)) in
      let two = number_set texts m.2 j (cases_lt j (length texts)) within in
      let same : slice_index_or sets (number i + 1) [] ≡ slice_index_or sets (number j + 1) [] = ap (λ (n : ℕ). slice_index_or sets (n + 1) []) e in
      m.3 i j [] l within (same_positions rules starts sets next accepts made r all (slice_index_or texts i []) (slice_index_or texts j [])
      (slice_index_or sets (number j + 1) []) (subst (IsSetOf rules (slice_index_or texts i [])) same one) two) in
      let into : Into number 4096 4095 = λ i l. omega (arith, number_below texts m.2 i (cases_lt i (length texts)) (omega (arith, l, m.1)), r.bound) in
      let one : OneToOne number 4096 = λ i j k l e. elim (cases_lt i j) [
        | inl x ↦ absurd (differ i j x l e)
        | inr x ↦ elim (cases_lt j i) [ inl y ↦ absurd (differ j i y k (sym e)) | inr y ↦ omega (arith, x, y) ]
      ] in
      let bad = pigeonhole 4096 4095 number into one in
      absurd (omega (arith, bad))

-- texts of the first n states after the start
texts_of : (rules : List Expression) (sets : List (List ℕ)) → AreStates rules sets → (n : ℕ) → n < length sets → (texts : List (List ℕ)) × (length texts ≡ n)
    × All (HasPosition rules) texts × AllPairs (λ one two. ¬ HaveSamePositions rules one two) texts × ((k : ℕ) → k < n → IsSetOf rules (slice_index_or texts k []) (slice_index_or sets (k + 1) []))
texts_of rules sets s zero lt = ([], refl, (λ k d l. absurd (omega (arith, l))), (λ i j d l m. absurd (omega (arith, m))), (λ k l. absurd (omega (arith, l))))
texts_of rules sets s (suc n) lt =
    let old = texts_of rules sets s n (omega (arith, lt)) in
    let texts = old.0 in
    let at : 0 < n + 1 = omega arith in
    let within : n + 1 < length sets = omega (arith, lt, add-one n) in
    let new = s.reached (n + 1) at within in
    let u = new.text in
    let m = some_member (slice_index_or sets (n + 1) []) (λ e. s.distinct 0 (n + 1) at within (s.start ∙ sym e)) in
    let has : HasPosition rules u = record { text = new.is_text; nonempty = new.nonempty; position = m.0; stands = new.is.only m.0 m.1 } in
    let many : length (texts ++ u ∷ []) ≡ suc n = omega (arith, length-append texts (u ∷ []), old.1) in
    let differ : (k : ℕ) (d : List ℕ) → k < length texts → ¬ HaveSamePositions rules (get_or texts k d) u = λ k d l same.
    let e = get_or_default texts k d [] l in
    let set = old.4 k (omega (arith, l, old.1)) in
    s.distinct (k + 1) (n + 1) (omega (arith, l, old.1)) within
    (set_unique rules (slice_index_or texts k []) u (slice_index_or sets (k + 1) []) (slice_index_or sets (n + 1) []) set new.is
    (λ p h. (same p).0 (subst (λ (t : List ℕ). StandsAt rules p t) (sym e) h))
    (λ p h. subst (λ (t : List ℕ). StandsAt rules p t) e ((same p).1 h))) in (
      texts ++ u ∷ [],
      many,
      All-push (HasPosition rules) texts u old.2 has,
      all_pairs_push (λ one two. ¬ HaveSamePositions rules one two) texts u old.3 differ,
      λ k l. elim (cases_lt k n) [
        | inl x ↦ subst (λ (t : List ℕ). IsSetOf rules t (slice_index_or sets (k + 1) [])) (sym (get_or_append_left texts (u ∷ []) [] k (omega (arith, x, old.1)))) (old.4 k x)
        | inr x ↦
            let e : n ≡ k = omega (arith, x, l) in
            let z : k - n ≡ 0 = omega (arith, e) in
            let f : get_or (texts ++ u ∷ []) k [] ≡ u = get_or-append_right texts (u ∷ []) n k [] old.1 x ∙ ap (λ i. get_or (u ∷ []) i []) z in
            subst (λ (t : List ℕ). IsSetOf rules t (slice_index_or sets (k + 1) [])) (sym f) (subst (λ (i : ℕ). IsSetOf rules u (slice_index_or sets (i + 1) [])) e new.is)
      ],
    )

pub many_states : (rules : List Expression) (sets : List (List ℕ)) → AreStates rules sets → 4096 < length sets → HasMoreStatesThan rules 4096
many_states rules sets s lt =
    let t = texts_of rules sets s 4096 lt in
    (t.0, omega (arith, t.1), t.2, t.3)
