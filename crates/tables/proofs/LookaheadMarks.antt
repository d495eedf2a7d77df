-- Marks of what some items ask for.
use Rattle.tables.proofs.Std.{◌≡◌, ◌+◌, ◌<◌, ℕ, Bool, true, false, List, length, slice_index_or, slice_set, ap, ◌∙◌, subst, ⊎_elim, arith, get_or-set_other, cases_eq, get_or_default, get_or-set_same}
use Rattle.tables.proofs.Common.{Item}

module _ {S : Type 0} (number : S → ℕ) (Asks : Item → S → Type 0) (items : List Item) where
  -- what the items before a place ask for is marked
  abbrev pub AreMarked : ℕ → List Bool → Type 0
  AreMarked at marks = (k : ℕ) (d : Item) (s : S) → k < at → Asks (slice_index_or items k d) s → slice_index_or marks (number s) false ≡ true

  module _ (at : ℕ) (z : Item) (below : at < length items) (marks : List Bool) (h : AreMarked at marks) where
    here : (k : ℕ) (d : Item) (s : S) → k ≡ at → Asks (slice_index_or items k d) s → Asks (slice_index_or items at z) s
    here k d s e = subst (λ i. Asks i s) (ap (λ x. slice_index_or items x d) e ∙ get_or_default items at d z below)

    -- one item more, which asks for one mark at most
    pub mark_more : (m : ℕ) → m < length marks → ((s : S) → Asks (slice_index_or items at z) s → number s ≡ m) → AreMarked (at + 1) (slice_set marks m true)
    mark_more m l only k d s b a = ⊎_elim
        (λ e. ap (λ n. slice_index_or (slice_set marks m true) n false) (only s (here k d s e a)) ∙ get_or-set_same marks m true false l)
        (λ o. ⊎_elim
        (λ e. ap (λ n. slice_index_or (slice_set marks m true) n false) e ∙ get_or-set_same marks m true false l)
        (λ n. get_or-set_other marks m (number s) true false n ∙ h k d s (omega (arith, b, o)) a)
        (cases_eq (number s) m))
        (cases_eq k at)

    -- one item more, which asks for nothing
    pub mark_none : ((s : S) → Asks (slice_index_or items at z) s → ⊥) → AreMarked (at + 1) marks
    mark_none quiet k d s b a = ⊎_elim (λ e. absurd (quiet s (here k d s e a))) (λ o. h k d s (omega (arith, b, o)) a) (cases_eq k at)
