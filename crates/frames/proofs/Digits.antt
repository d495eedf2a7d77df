-- The number that some digits write.
use Rattle.frames.proofs.Std.{◌≡◌, ◌-◌, ◌<◌, ◌≤◌, ◌^◌, ◌&&◌, ◌==◌, ℕ, Bool, true, not, List, [], ◌∷◌, length, take, arith, nat_le, list_all, digits_value, AllDigits, is_ascii_digit, digit_value, digits_value-lt, digits_value-take-le, leb-true, pow-le-pow_right, common_steps, and_parts}
use Rattle.frames.proofs.Common.{is_number}

both_of_three : (a b c : Bool) → (a && b && c) ≡ true → (b ≡ true) × (c ≡ true)
both_of_three a b c h = let p = and_parts (a && b) c h in ((and_parts a b p.0).1, p.1)

digit_range : (c : ℕ) → is_ascii_digit c ≡ true → (48 ≤ c) × (c ≤ 57)
digit_range c h = let b = and_parts (nat_le 48 c) (nat_le c 57) h in (leb-true 48 c b.0, leb-true c 57 b.1)

pub digit_is : (c : ℕ) → 48 ≤ c → c ≤ 57 → digit_value c ≡ c - 48
digit_is c low high = grind (arith, common_steps)

digit_below : (c : ℕ) → is_ascii_digit c ≡ true → digit_value c < 10
digit_below c h = let r = digit_range c h in let e = digit_is c r.0 r.1 in omega (arith, e)

pub all_digits : (cs : List ℕ) → list_all is_ascii_digit cs ≡ true → AllDigits 10 cs
all_digits [] h = tt
all_digits (c ∷ cs) h = let b = and_parts (is_ascii_digit c) (list_all is_ascii_digit cs) h in (digit_below c b.0, all_digits cs b.1)

-- one to eight digits
pub number_parts : (cs : List ℕ) → is_number cs ≡ true → (length cs ≤ 8) × AllDigits 10 cs
number_parts cs h =
    let outer = both_of_three (not (length cs == 0)) (nat_le (length cs) 8) (list_all is_ascii_digit cs) h in
    (leb-true (length cs) 8 outer.0, all_digits cs outer.1)

-- eight digits stand for a number below 10 ^ 8, and so do the first i
pub number_bound : (cs : List ℕ) (i : ℕ) → is_number cs ≡ true → digits_value 10 (take i cs) < 10 ^ 8
number_bound cs i h =
    let p = number_parts cs h in
    let few = digits_value-take-le 10 cs i (omega arith) in
    let all = digits_value-lt 10 cs p.1 in
    let most = pow-le-pow_right {n = 10} (omega arith) {i = length cs} {j = 8} p.0 in
    omega (arith, few, all, most)
