-- The kernels after all symbols of a set, as its items are taken one by one.
use Rattle.item_sets.proofs.Std.{◌≡◌, ◌+◌, ◌<◌, ◌≤◌, ℕ, List, [], ◌∷◌, ◌++◌, Some, All, Contains, length, slice_index_or, slice_set, refl, sym, ap, ◌∙◌, subst, inr, ⊎_elim}
use Rattle.item_sets.proofs.Std.{arith, length-set, get_or-set_same, get_or-set_other, cases_eq, get_or_default, Contains-get_or, Contains-push, Contains-push_cases, Contains-append_left}
use Rattle.item_sets.proofs.Common.{Symbol, Grammar, first, Item, IsRising, IsInside, Shape, IsKnown, IsItem, after_dot, step, ShiftsUpTo, IsKernelAfter, number, symbol_of, number-symbol_of, symbol_of-number}
use Rattle.item_sets.proofs.AfterDot.{step_known, moved}
use Rattle.item_sets.proofs.Ordered.{rising_step}

module _ (g : Grammar) (items : List Item) (at : ℕ) (z : Item) (below : at < length items) where
  abbrev item : Item
  item = slice_index_or items at z

  here : (k : ℕ) (d : Item) → k ≡ at → slice_index_or items k d ≡ item
  here k d e = ap (λ x. slice_index_or items x d) e ∙ get_or_default items at d z below

  module _ (s : Symbol) (kernel : List Item) (h : ShiftsUpTo g items at s kernel) where
    from : (i : Item) → Contains kernel i → (k : ℕ) × (k < at) × (step (slice_index_or items k z) ≡ i)
    from i c = let x = h.each i c in (x.0, x.1, subst (λ y. step y ≡ i) (get_or_default items x.0 i z x.2) x.4)

    later : (i : Item) → Contains kernel i → (k : ℕ) × (k < at + 1) × (k < length items) × (first (after_dot g (slice_index_or items k i)) ≡ Some s) × (step (slice_index_or items k i) ≡ i)
    later i c = let x = h.each i c in (x.0, (let l = x.1 in omega (arith, l)), x.2, x.3, x.4)

    -- an item that stands before the symbol
    shifts_more : IsRising items → first (after_dot g item) ≡ Some s → ShiftsUpTo g items (at + 1) s (kernel ++ step item ∷ [])
    shifts_more rising stands = record {
      rising = rising_step items kernel at z rising below h.rising from;
      each = λ i c. ⊎_elim (later i) (λ e. (at, omega arith, below, subst (λ y. first (after_dot g y) ≡ Some s) (sym (here at i refl)) stands, ap step (here at i refl) ∙ e))
          (Contains-push_cases kernel (step item) i c);
      all = λ k d l f. ⊎_elim (λ e. subst (λ y. Contains (kernel ++ step item ∷ []) (step y)) (sym (here k d e)) (Contains-push kernel (step item)))
          (λ o. Contains-append_left kernel (step item ∷ []) (step (slice_index_or items k d)) (h.all k d (omega (arith, l, o)) f)) (cases_eq k at);
    }

    -- one that does not
    shifts_same : (first (after_dot g item) ≡ Some s → ⊥) → ShiftsUpTo g items (at + 1) s kernel
    shifts_same apart = record {
      rising = h.rising;
      each = later;
      all = λ k d l f. ⊎_elim (λ e. absurd (apart (subst (λ y. first (after_dot g y) ≡ Some s) (here k d e) f))) (λ o. h.all k d (omega (arith, l, o)) f) (cases_eq k at);
    }

module _ (g : Shape) (items : List Item) (at : ℕ) (z : Item) (below : at < length items) (kernels : List (List Item))
    (h : (k : ℕ) → k < length kernels → ShiftsUpTo g.grammar items at (symbol_of g.grammar k) (slice_index_or kernels k [])) where
  module _ (rising : IsRising items) (s : Symbol) (known : IsKnown g s) (stands : first (after_dot g.grammar (slice_index_or items at z)) ≡ Some s)
      (within : number g.grammar s < length kernels) where
    abbrev n : ℕ
    n = number g.grammar s

    abbrev more : List Item
    more = slice_index_or kernels n [] ++ step (slice_index_or items at z) ∷ []

    abbrev pub after : List (List Item)
    after = slice_set kernels n more

    theirs : ShiftsUpTo g.grammar items (at + 1) (symbol_of g.grammar n) (slice_index_or after n [])
    theirs = subst (ShiftsUpTo g.grammar items (at + 1) (symbol_of g.grammar n)) (sym (get_or-set_same kernels n more [] within))
        (shifts_more g.grammar items at z below (symbol_of g.grammar n) (slice_index_or kernels n []) (h n within) rising (stands ∙ ap (λ x. Some x) (sym (symbol_of-number g s known))))

    same_number : (k : ℕ) → first (after_dot g.grammar (slice_index_or items at z)) ≡ Some (symbol_of g.grammar k) → k ≡ n
    same_number k f = let same : symbol_of g.grammar k ≡ s = cc (f, stands) in sym (number-symbol_of g.grammar k) ∙ ap (number g.grammar) same

    -- the item is put into the kernel after its symbol
    pub kernels_more : (k : ℕ) → k < length after → ShiftsUpTo g.grammar items (at + 1) (symbol_of g.grammar k) (slice_index_or after k [])
    kernels_more k l =
        let b : k < length kernels = subst (λ m. k < m) (length-set kernels n more) l in
        ⊎_elim
        (λ e. subst (λ m. ShiftsUpTo g.grammar items (at + 1) (symbol_of g.grammar m) (slice_index_or after m [])) (sym e) theirs)
        (λ o. subst (ShiftsUpTo g.grammar items (at + 1) (symbol_of g.grammar k)) (sym (get_or-set_other kernels n k more [] o))
        (shifts_same g.grammar items at z below (symbol_of g.grammar k) (slice_index_or kernels k []) (h k b) (λ f. o (same_number k f))))
        (cases_eq k n)

  -- an item at its end is put into none
  pub kernels_same : ((s : Symbol) → first (after_dot g.grammar (slice_index_or items at z)) ≡ Some s → ⊥) → (k : ℕ) → k < length kernels
      → ShiftsUpTo g.grammar items (at + 1) (symbol_of g.grammar k) (slice_index_or kernels k [])
  kernels_same quiet k l = shifts_same g.grammar items at z below (symbol_of g.grammar k) (slice_index_or kernels k []) (h k l) (quiet (symbol_of g.grammar k))

-- no item so far
pub shifts_none : (g : Grammar) (items : List Item) (s : Symbol) → ShiftsUpTo g items 0 s []
shifts_none g items s = record {
  rising = λ i j d l m. absurd (omega (arith, m));
  each = λ i c. let l = c.1 in absurd (omega (arith, l));
  all = λ k d l f. absurd (omega (arith, l));
}

-- all items that stand before the symbol are the kernel after it
pub kernel_after : (g : Shape) (items kernel : List Item) (at : ℕ) (s : Symbol) → All (IsItem g) items → length items ≤ at → ShiftsUpTo g.grammar items at s kernel → IsKernelAfter g items s kernel
kernel_after g items kernel at s known end h =
    let each : (i : Item) → Contains kernel i → (j : Item) × Contains items j × (first (after_dot g.grammar j) ≡ Some s) × (step j ≡ i) = λ i c. let x =
    h.each i c in (slice_index_or items x.0 i, Contains-get_or items x.0 i x.2, x.3, x.4) in
    let all : (j : Item) → Contains items j → first (after_dot g.grammar j) ≡ Some s → Contains kernel (step j) = λ j c f. let l = c.1 in
    subst (λ x. Contains kernel (step x)) c.2 (h.all c.0 j (omega (arith, l, end)) (subst (λ x. first (after_dot g.grammar x) ≡ Some s) (sym c.2) f)) in
    let in_range : (i : Item) → Contains kernel i → IsItem g i = λ i c. let x = each i c in subst (IsItem g) x.3 (step_known g x.0 s (subst (IsItem g) x.1.2 (known x.1.0 x.0 x.1.1)) x.2) in
    let inside : (i : Item) → Contains kernel i → IsInside i = λ i c. let x = each i c in subst IsInside x.3 (inr (omega arith)) in
    record {
      ordered = record {
        known = λ k d l. in_range (slice_index_or kernel k d) (Contains-get_or kernel k d l);
        inside = λ k d l. inside (slice_index_or kernel k d) (Contains-get_or kernel k d l);
        rising = h.rising;
      };
      leads = λ prefix set. moved g.grammar items kernel s prefix (record { each = each; all = all }) set;
    }
