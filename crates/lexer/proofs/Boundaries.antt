-- The boundaries of stored tokens are the sums of their lengths.
use Rattle.lexer.proofs.Std.{arith, cases_Bool, and_from, and_parts, le-leb, leb-true, eq-eqb, eqb-true, get_or_default, Any-from_list_any, list_any_at}
use Rattle.lexer.proofs.Std.{refl, sym, ap, inl, inr, ◌∙◌, ◌≡◌, ◌≢◌, ℕ, zero, suc, ◌+◌, ◌-◌, ◌<◌, ◌≤◌, true, false, ◌==◌, List, [], ◌∷◌, length, take, slice_index_or, MatchOption, Option, Some, None}
use Rattle.lexer.proofs.Common.{Edit, boundaries, is_rejoined, length-boundaries, Token, characters, plain_all}
use Rattle.lexer.proofs.Totals.{characters-cons}

pub length-plain : (xs : List Token) → length (plain_all xs) ≡ length xs
length-plain [] = refl
length-plain (x ∷ xs) = ap suc (length-plain xs)

boundary_from : (o : ℕ) (xs : List Token) (j d : ℕ) → j ≤ length xs → slice_index_or (boundaries o (plain_all xs)) j d ≡ o + characters (take j xs)
boundary_from o [] zero d l = omega arith
boundary_from o [] (suc j) d l = absurd (omega arith)
boundary_from o (x ∷ xs) zero d l = omega arith
boundary_from o (x ∷ xs) (suc j) d l =
    let rest : slice_index_or (boundaries (o + x.length) (plain_all xs)) j d ≡ o + x.length + characters (take j xs) = boundary_from (o + x.length) xs j d (omega arith) in
    omega (arith, rest, characters-cons x (take j xs))

pub boundary_at : (xs : List Token) (j d : ℕ) → j ≤ length xs → slice_index_or (boundaries 0 (plain_all xs)) j d ≡ characters (take j xs)
boundary_at xs j d l = boundary_from 0 xs j d l ∙ omega arith

below_end : (j m n : ℕ) → j < m → m ≡ n + 1 → j ≤ n
below_end j m n l e = omega arith

-- no old token starts where a place that isn't one of rejoining comes from
pub not_rejoined : (e : Edit) (xs : List Token) (q : ℕ) → ((j : ℕ) → j ≤ length xs → characters (take j xs) + e.inserted ≢ q + e.removed) → is_rejoined e (plain_all xs) q ≡ false
not_rejoined e xs q h = elim (cases_Bool (is_rejoined e (plain_all xs) q)) [
  | inl yes' ↦
      let parts = and_parts _ _ yes' in
      let some = Any-from_list_any (λ o. o + e.inserted == q + e.removed) (boundaries 0 (plain_all xs)) parts.1 in
      let j : ℕ = some.0 in
      let within : j ≤ length xs = below_end j (length (boundaries 0 (plain_all xs))) (length xs) some.2 (length-boundaries 0 (plain_all xs) ∙ ap (λ n. n + 1) (length-plain xs)) in
      let place : characters (take j xs) ≡ some.1 = sym (boundary_at xs j 0 within) ∙ get_or_default (boundaries 0 (plain_all xs)) j 0 some.1 some.2 ∙ some.3 in
      let moved : some.1 + e.inserted ≡ q + e.removed = eqb-true _ _ some.4 in
      absurd (h j within (ap (λ n. n + e.inserted) place ∙ moved))
  | inr no' ↦ no'
]

pub not_after : (e : Edit) (xs : List Token) (q : ℕ) → q < e.at + e.inserted → is_rejoined e (plain_all xs) q ≡ false
not_after e xs q l = elim (cases_Bool (is_rejoined e (plain_all xs) q)) [
  | inl yes' ↦ let parts = and_parts _ _ yes' in let le : e.at + e.inserted ≤ q = leb-true _ _ parts.0 in absurd (omega arith)
  | inr no' ↦ no'
]

pub is_rejoined_at : (e : Edit) (xs : List Token) (q j : ℕ) → e.at + e.inserted ≤ q → j ≤ length xs → characters (take j xs) + e.inserted ≡ q + e.removed → is_rejoined e (plain_all xs) q ≡ true
is_rejoined_at e xs q j l m moved =
    and_from _ _ (le-leb _ _ l)
    (list_any_at (λ o. o + e.inserted == q + e.removed) (boundaries 0 (plain_all xs)) j 0
    (omega (arith, length-boundaries 0 (plain_all xs), length-plain xs))
    (eq-eqb _ _ (omega (arith, boundary_at xs j 0 m))))

-- what the place that was looked for says of rejoining
pub rejoined_is : (e : Edit) (xs : List Token) (q : ℕ) (o : Option ℕ) → e.at + e.inserted ≤ q
    → MatchOption o ((j : ℕ) → j ≤ length xs → characters (take j xs) ≢ q - e.inserted + e.removed) (λ j. (j ≤ length xs) × (characters (take j xs) ≡ q - e.inserted + e.removed))
    → MatchOption o (is_rejoined e (plain_all xs) q ≡ false) (λ j. (is_rejoined e (plain_all xs) q ≡ true) × (j ≤ length xs) × (characters (take j xs) + e.inserted ≡ q + e.removed))
rejoined_is e xs q None l h = not_rejoined e xs q (λ j m moved. h j m (omega arith))
rejoined_is e xs q (Some j) l h = let moved : characters (take j xs) + e.inserted ≡ q + e.removed = omega (arith, h.1) in (is_rejoined_at e xs q j l h.0 moved, h.0, moved)
