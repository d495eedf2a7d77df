-- The height of a balanced tree against its number of items.
use Rattle.seqtree.proofs.Std.{ℕ, zero, suc, ◌+◌, ◌*◌, ◌^◌, ◌<◌, ◌≤◌, max, inl, inr, arith, two-pow-succ, pow-le-pow_right, cases_lt, ◌≡◌, length, subst, ap, ◌∙◌, digits_of, number_lt, number_digits_of, all_below_base_digits_of}
use Rattle.seqtree.proofs.Common.{IsLow, DifferByAtMost, digits}

-- a node over two low sides is low
pub IsLow-fork : (a b m n : ℕ) → IsLow a m → IsLow b n → DifferByAtMost 1 a b → IsLow (max a b + 1) (m + 1 + n)
IsLow-fork a b m n p q d zero h = absurd (omega arith)
IsLow-fork a b m n p q d (suc j) h =
    let e = two-pow-succ j in
    elim (cases_lt m (2 ^ j)) [
      | inl x ↦ let y = p j x in omega arith
      | inr x ↦ let z : n < 2 ^ j = omega arith in let y = q j z in omega arith
    ]

-- and a node over two sides that are high enough for their numbers of items is so too
pub high-fork : (a b m n len tall : ℕ) → len ≡ m + 1 + n → tall ≡ max a b + 1 → m < 2 ^ a → n < 2 ^ b → len < 2 ^ tall
high-fork a b m n len tall count higher p q =
    let l : 2 ^ a ≤ 2 ^ max a b = pow-le-pow_right (omega arith) (omega arith) in
    let r : 2 ^ b ≤ 2 ^ max a b = pow-le-pow_right (omega arith) (omega arith) in
    let one_more : tall ≡ suc (max a b) = omega arith in
    let e : 2 ^ tall ≡ 2 ^ max a b + 2 ^ max a b = ap (λ k. 2 ^ k) one_more ∙ two-pow-succ (max a b) in
    omega (arith, l, r, e)

-- a low tree whose number of items fits has a height far below 2 ^ 8
pub IsLow-below : (h n : ℕ) → IsLow h n → n < 2 ^ 64 → h ≤ 128
IsLow-below h n p q = p 64 q

-- a low tree is at most twice as high as its number of items has binary digits
pub IsLow-digits : (h n : ℕ) → IsLow h n → h ≤ 2 * digits n
IsLow-digits h n p =
    let e = number_digits_of 2 n (omega arith) in
    let b = number_lt 2 (digits_of 2 n) (all_below_base_digits_of 2 n (omega arith)) in
    p (digits n) (subst (λ (m : ℕ). m < 2 ^ length (digits_of 2 n)) e b)
