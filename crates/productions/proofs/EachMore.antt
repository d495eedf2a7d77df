-- Facts of each element of a list that gets one more.
use Rattle.productions.proofs.Std.{◌≡◌, ◌<◌, ℕ, List, [], ◌∷◌, ◌++◌, arith, length-append, length, slice_index_or, inl, inr, cases_lt, get_or_append_left, get_or-append_seam}

-- a fact of each element, and of one more
pub each_more : {X : Type 0} (P : ℕ → X → Type 0) (xs : List X) (x d : X) → ((a : ℕ) → a < length xs → P a (slice_index_or xs a d))
    → P (length xs) x → (a : ℕ) → a < length (xs ++ x ∷ []) → P a (slice_index_or (xs ++ x ∷ []) a d)
each_more P xs x d h k a l =
    let n = length-append xs (x ∷ []) in
    elim (cases_lt a (length xs)) [
      | inl b ↦ rw (get_or_append_left xs (x ∷ []) d a b) (h a b)
      | inr b ↦ let at : a ≡ length xs = omega arith in rw (at, get_or-append_seam xs x [] d) k
    ]
