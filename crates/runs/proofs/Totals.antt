-- What runs add up to, and how many items lie before the run with a given one.
use Rattle.runs.proofs.Std.{nought, suc, ◌<◌, true, false, nat_lt, slice_index_or, ltb-true, ltb-false, take_more, ◌≡◌, ℕ, ◌+◌, ◌≤◌, List, [], ◌∷◌, ◌++◌, length, take, arith, refl, sym, ap, ◌∙◌, length-append}
use Rattle.runs.proofs.Common.{MonoidLaws, total, saturated, saturated-exact, total-append, Counted, most, nothing, join_three, counted, flattened, prefix-le}

-- the items before the run at place i
abbrev pub prefix : {A : Type 0} → List (List A) → ℕ → List A
prefix runs i = flattened (take i runs)

module _ {A S : Type 0} {zero : S} {op : S → S → S} (measure : A → S) (laws : MonoidLaws zero op) where
  abbrev pub all_of : List (List A) → Counted S
  all_of runs = total (nothing zero) (join_three op) (counted zero op measure) runs

  pub total-sum : (runs : List (List A)) → (all_of runs).sum ≡ total zero op measure (flattened runs)
  total-sum [] = refl
  total-sum (run ∷ runs) = ap (op (total zero op measure run)) (total-sum runs) ∙ sym (total-append measure laws run (flattened runs))

  pub total-items : (runs : List (List A)) → length (flattened runs) ≤ most → (all_of runs).items ≡ length (flattened runs)
  total-items [] few = refl
  total-items (run ∷ runs) few =
      let both : length (run ++ flattened runs) ≡ length run + length (flattened runs) = length-append run (flattened runs) in
      let fits : length run + length (flattened runs) ≤ most = omega (arith, few, both) in
      ap (saturated most (length run)) (total-items runs (omega (arith, fits))) ∙ saturated-exact most (length run) (length (flattened runs)) fits ∙ sym both

  -- one item more
  pub total-more : (items : List A) (i : ℕ) (d : A) → i < length items → total zero op measure (take (i + 1) items) ≡ op (total zero op measure (take i items)) (measure (slice_index_or items i d))
  total-more items i d l = ap (total zero op measure) (take_more items i d l) ∙ total-append measure laws (take i items) (slice_index_or items i d ∷ [])
      ∙ ap (op (total zero op measure (take i items))) (laws.right_unit (measure (slice_index_or items i d)))

  module _ (runs : List (List A)) (few : length (flattened runs) ≤ most) (offset : ℕ) where
    pub items_before : (i : ℕ) → (all_of (take i runs)).items ≡ length (prefix runs i)
    items_before i = total-items (take i runs) (omega (arith, few, prefix-le (λ run. run) runs i))

    -- no more items than the offset lie before the first run after which more do
    pub starts_before : (i : ℕ) → ((k : ℕ) → k < i → nat_lt offset (all_of (take (k + 1) runs)).items ≡ false) → length (prefix runs i) ≤ offset
    starts_before nought h = omega arith
    starts_before (suc k) h =
        let same : k + 1 ≡ suc k = omega arith in
        let low = ltb-false offset _ (h k (omega arith)) in
        omega (arith, low, items_before (k + 1), ap (λ n. length (prefix runs n)) same)

    pub ends_after : (i : ℕ) → nat_lt offset (all_of (take (i + 1) runs)).items ≡ true → offset < length (prefix runs (i + 1))
    ends_after i h = omega (arith, ltb-true offset _ h, items_before (i + 1))

  -- a walk over items, with what stands before them
  pub walked : (before : S) (items : List A) (i : ℕ) (d : A) (s m past : S) → i < length items → d ≡ slice_index_or items i d → s ≡ op before (total zero op measure (take i items))
      → m ≡ measure d → past ≡ op s m → past ≡ op before (total zero op measure (take (i + 1) items))
  walked before items i d s m past l is e f h =
      h ∙ (λ k. op (e k) ((f ∙ ap measure is) k)) ∙ laws.assoc before (total zero op measure (take i items)) (measure (slice_index_or items i d)) ∙ ap (op before) (sym (total-more items i d l))
