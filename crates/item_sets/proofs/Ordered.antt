-- The order of items, which the closure and a step of the dots keep.
use Rattle.item_sets.proofs.Std.{◌≡◌, ◌<◌, ◌+◌, ℕ, zero, suc, List, [], ◌∷◌, ◌++◌, Contains, length, slice_index_or, refl, ap, subst, inl, inr, arith, Contains-get_or, all_pairs_push}
use Rattle.item_sets.proofs.Common.{same_elements, Item, beginning_of, step, rank, Below, IsRising, IsBefore, rank-lookahead_at}

pub before_below : (p k : ℕ) (i : Item) → IsBefore p k i → Below i (beginning_of p k)
before_below p k i (inl (inl e)) = at_start (i.at) refl
  where
    at_start : (n : ℕ) → i.at ≡ n → Below i (beginning_of p k)
    at_start zero f = inr (f, inl (let r = ap rank e in omega (arith, r)))
    at_start (suc n) f = inl (omega (arith, f))
before_below p k i (inl (inr l)) = inl l
before_below p k i (inr (e, inl l)) = inr (e, inl l)
before_below p k i (inr (e, inr (f, l))) = inr (e, inr (f, let r = rank-lookahead_at k in omega (arith, l, r)))

pub before_more : (p k : ℕ) (i : Item) → IsBefore p k i → IsBefore p (k + 1) i
before_more p k i (inl h) = inl h
before_more p k i (inr (e, inl l)) = inr (e, inl l)
before_more p k i (inr (e, inr (f, l))) = inr (e, inr (f, omega (arith, l)))

pub before_next : (p k : ℕ) (i : Item) → IsBefore p k i → IsBefore (p + 1) 0 i
before_next p k i (inl h) = inl h
before_next p k i (inr (e, inl l)) = inr (e, inl (omega (arith, l)))
before_next p k i (inr (e, inr (f, l))) = inr (e, inl (omega (arith, f)))

below_step : (i j : Item) → Below i j → Below (step i) (step j)
below_step i j (inl l) = inl (omega (arith, l))
below_step i j (inr (e, r)) = inr (ap (λ n. n + 1) e, r)

-- what comes of an earlier item stays before what comes of a later one
pub rising_step : (items kernel : List Item) (at : ℕ) (z : Item) → IsRising items → at < length items → IsRising kernel
    → ((i : Item) → Contains kernel i → (k : ℕ) × (k < at) × (step (slice_index_or items k z) ≡ i)) → IsRising (kernel ++ step (slice_index_or items at z) ∷ [])
rising_step items kernel at z rising below h from = all_pairs_push Below kernel (step (slice_index_or items at z)) h
    (λ j d l. let x = from (slice_index_or kernel j d) (Contains-get_or kernel j d l) in subst (λ y. Below y (step (slice_index_or items at z))) x.2
    (below_step (slice_index_or items x.0 z) (slice_index_or items at z) (rising x.0 at z x.1 below)))

-- no two items are each before the other
opposed : (i j : Item) → Below i j → Below j i → ⊥
opposed i j (inl l) (inl m) = absurd (omega (arith, l, m))
opposed i j (inl l) (inr (f, n)) = absurd (omega (arith, l, f))
opposed i j (inr (e, n)) (inl m) = absurd (omega (arith, e, m))
opposed i j (inr (e, inl l)) (inr (f, inl m)) = absurd (omega (arith, l, m))
opposed i j (inr (e, inl l)) (inr (f, inr (b, n))) = absurd (omega (arith, l, b))
opposed i j (inr (e, inr (a, l))) (inr (f, inl m)) = absurd (omega (arith, a, m))
opposed i j (inr (e, inr (a, l))) (inr (f, inr (b, m))) = absurd (omega (arith, l, m))

-- a list in order is determined by its members
pub rising_same : (xs ys : List Item) → IsRising xs → IsRising ys → ((i : Item) → Contains xs i → Contains ys i) → ((i : Item) → Contains ys i → Contains xs i) → xs ≡ ys
rising_same = same_elements Below opposed
