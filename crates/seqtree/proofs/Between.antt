-- The items of a list that stand before, at and behind one of them.
use Rattle.seqtree.proofs.Std.{◌≡◌, ℕ, zero, suc, ◌+◌, ◌<◌, List, [], ◌∷◌, ◌++◌, length, slice_get, Some, arith, refl, ap, ◌∙◌}

module _ {A : Type 0} where
  pub item_left : (xs ys : List A) (i : ℕ) → i < length xs → slice_get (xs ++ ys) i ≡ slice_get xs i
  item_left [] ys i h = absurd (omega arith)
  item_left (x ∷ xs) ys zero h = refl
  item_left (x ∷ xs) ys (suc i) h = item_left xs ys i (omega arith)

  pub item_between : (xs : List A) (x : A) (ys : List A) → slice_get (xs ++ x ∷ ys) (length xs) ≡ Some x
  item_between [] x ys = refl
  item_between (z ∷ xs) x ys = let more : length (z ∷ xs) ≡ suc (length xs) = omega arith in ap (slice_get (z ∷ xs ++ x ∷ ys)) more ∙ item_between xs x ys

  pub item_right : (xs : List A) (x : A) (ys : List A) (i : ℕ) → slice_get (xs ++ x ∷ ys) (length xs + 1 + i) ≡ slice_get ys i
  item_right [] x ys i = let first : 0 + 1 + i ≡ suc i = omega arith in ap (slice_get (x ∷ ys)) first
  item_right (z ∷ xs) x ys i =
      let more : length (z ∷ xs) + 1 + i ≡ suc (length xs + 1 + i) = omega arith in
      ap (slice_get (z ∷ xs ++ x ∷ ys)) more ∙ item_right xs x ys i
