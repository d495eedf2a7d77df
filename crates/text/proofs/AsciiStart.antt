-- Bytes in ASCII at the start of a text are its first characters.
use Rattle.text.proofs.Std.{arith, length-append, append_assoc, drop_at, get_or-take, length-take, take_at, take-append-drop, All-get_or, chars-append, chars-IsAscii, IsCharBoundary-after_ascii, IsCharBoundary-start, IsUtf8-from_ascii, IsAscii-from_all}
use Rattle.text.proofs.Std.{sym, ap, subst, ◌∙◌, ◌≡◌, ◌<◌, ◌≤◌, ℕ, zero, suc, ◌+◌, All, List, ◌++◌, length, take, drop, slice_index_or, chars, IsAscii, IsCharBoundary, IsUtf8}

-- the first `n` bytes of `bs` are in ASCII, and `rest` stands after all of them
module _ (bs : List ℕ) (n : ℕ) (within : n ≤ length bs) (all : All (λ x. x < 128) (take n bs)) where
  long : length (take n bs) ≡ n
  long = omega (arith, length-take n bs)

  ascii : IsAscii (take n bs)
  ascii = IsAscii-from_all (take n bs) all

  -- the text may be cut after them
  pub cut_after : IsUtf8 bs → IsCharBoundary bs n
  cut_after utf8 = by n within all
    where
      by : (m : ℕ) → m ≤ length bs → All (λ x. x < 128) (take m bs) → IsCharBoundary bs m
      by zero le each = IsCharBoundary-start bs utf8
      by (suc m) le each =
          let lt : m < length bs = omega (arith, le) in
          let inside : m < length (take (suc m) bs) = omega (arith, length-take (suc m) bs, le) in
          let last : slice_index_or bs m 0 < 128 = subst (λ x. x < 128) (get_or-take (suc m) bs m 0 (omega arith)) (All-get_or (λ x. x < 128) (take (suc m) bs) m 0 inside each) in
          let e : m + 1 ≡ suc m = omega arith in
          subst (IsCharBoundary bs) e (IsCharBoundary-after_ascii bs m utf8 lt last)

  split : (rest : List ℕ) → chars bs ++ rest ≡ take n bs ++ (chars (drop n bs) ++ rest)
  split rest =
      ap (λ l. chars l ++ rest) (sym (take-append-drop n bs))
      ∙ ap (λ l. l ++ rest) (chars-append (take n bs) (drop n bs) (IsUtf8-from_ascii (take n bs) ascii))
      ∙ append_assoc (chars (take n bs)) (chars (drop n bs)) rest
      ∙ ap (λ l. l ++ (chars (drop n bs) ++ rest)) (chars-IsAscii (take n bs) ascii)

  pub first_are : (rest : List ℕ) → take n (chars bs ++ rest) ≡ take n bs
  first_are rest = ap (take n) (split rest) ∙ take_at (take n bs) (chars (drop n bs) ++ rest) n long

  pub others_are : (rest : List ℕ) → drop n (chars bs ++ rest) ≡ chars (drop n bs) ++ rest
  others_are rest = ap (drop n) (split rest) ∙ drop_at (take n bs) (chars (drop n bs) ++ rest) n long

  pub enough : (rest : List ℕ) → n ≤ length (chars bs ++ rest)
  enough rest = omega (arith, ap length (split rest), length-append (take n bs) (chars (drop n bs) ++ rest), long)
