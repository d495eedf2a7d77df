-- The numbers of productions by their left sides, with one production more.
use Rattle.productions.proofs.Std.{◌≡◌, ◌+◌, ◌<◌, ℕ, List, [], ◌∷◌, ◌++◌, All, AllPairs, Contains, length, slice_index_or, slice_set, sym, subst, ⊎_elim, arith, ap, ◌∙◌, get_or-set_same, get_or-set_other, cases_eq, All-push, Contains-push, Contains-append_left, all_pairs_push}

module _ (left : ℕ → ℕ) (rows : List (List ℕ)) (at : ℕ) (within : left at < length rows) where
  abbrev pub row : List ℕ
  row = slice_index_or rows (left at) []

  abbrev pub after : List (List ℕ)
  after = slice_set rows (left at) (row ++ at ∷ [])

  same_row : slice_index_or after (left at) [] ≡ row ++ at ∷ []
  same_row = get_or-set_same rows (left at) (row ++ at ∷ []) [] within

  other_row : (n : ℕ) → (n ≡ left at → ⊥) → slice_index_or after n [] ≡ slice_index_or rows n []
  other_row n o = get_or-set_other rows (left at) n (row ++ at ∷ []) [] o

  later : (n : ℕ) → All (λ p. (p < at) × (left p ≡ n)) (slice_index_or rows n []) → All (λ p. (p < at + 1) × (left p ≡ n)) (slice_index_or rows n [])
  later n h = λ k d l. let x = h k d l in let y = x.0 in (omega (arith, y), x.1)

  pub theirs_more : ((n : ℕ) → All (λ p. (p < at) × (left p ≡ n)) (slice_index_or rows n [])) → (n : ℕ) → All (λ p. (p < at + 1) × (left p ≡ n)) (slice_index_or after n [])
  theirs_more h n = ⊎_elim
      (λ s. subst (All (λ p. (p < at + 1) × (left p ≡ n))) (sym (ap (λ m. slice_index_or after m []) s ∙ same_row))
      (All-push (λ p. (p < at + 1) × (left p ≡ n)) row at (subst (λ m. All (λ p. (p < at + 1) × (left p ≡ n)) (slice_index_or rows m [])) s (later n (h n))) (omega arith, sym s)))
      (λ o. subst (All (λ p. (p < at + 1) × (left p ≡ n))) (sym (other_row n o)) (later n (h n)))
      (cases_eq n (left at))

  kept : (n p : ℕ) → Contains (slice_index_or rows n []) p → Contains (slice_index_or after n []) p
  kept n p h = ⊎_elim
      (λ s. subst (λ r. Contains r p) (sym (ap (λ m. slice_index_or after m []) s ∙ same_row)) (Contains-append_left row (at ∷ []) p (subst (λ m. Contains (slice_index_or rows m []) p) s h)))
      (λ o. subst (λ r. Contains r p) (sym (other_row n o)) h)
      (cases_eq n (left at))

  pub all_more : ((p : ℕ) → p < at → Contains (slice_index_or rows (left p) []) p) → (p : ℕ) → p < at + 1 → Contains (slice_index_or after (left p) []) p
  all_more h p l = ⊎_elim
      (λ s. subst (λ q. Contains (slice_index_or after (left q) []) q) (sym s) (subst (λ r. Contains r at) (sym same_row) (Contains-push row at)))
      (λ o. kept (left p) p (h p (omega (arith, l, o))))
      (cases_eq p at)

  pub rising_more : ((n : ℕ) → All (λ p. (p < at) × (left p ≡ n)) (slice_index_or rows n [])) → ((n : ℕ) → AllPairs (λ p q. p < q) (slice_index_or rows n []))
      → (n : ℕ) → AllPairs (λ p q. p < q) (slice_index_or after n [])
  rising_more theirs h n = ⊎_elim
      (λ s. subst (AllPairs (λ p q. p < q)) (sym (ap (λ m. slice_index_or after m []) s ∙ same_row)) (all_pairs_push (λ p q. p < q) row at (h (left at)) (λ k d l. (theirs (left at) k d l).0)))
      (λ o. subst (AllPairs (λ p q. p < q)) (sym (other_row n o)) (h n))
      (cases_eq n (left at))
