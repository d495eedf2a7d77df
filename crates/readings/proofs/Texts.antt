-- Texts that fit.
use Rattle.readings.proofs.Std.{◌≡◌, ◌≤◌, ◌<◌, ℕ, Bool, true, false, List, [], ◌∷◌, length, refl, ap, ◌&&◌, nat_le, encode_utf8_all, chars, all_scalars, IsUtf8, AllByRecursion}
use Rattle.readings.proofs.Std.{arith, leb-true, leb-false, le-leb, and_from, and_parts, lt-leb, encodes-chars, chars-encodes, scalars-chars, recursion_from_All, All-from_recursion}
use Rattle.readings.proofs.Common.{IsCharacter, IsText, IsScalar-from_character, IsCharacter-from_scalar, fits}

pub all_scalars_in : (cs : List ℕ) → AllByRecursion IsCharacter cs → all_scalars cs ≡ true
all_scalars_in [] all = refl
all_scalars_in (c ∷ cs) all = and_from _ _ (IsScalar-from_character c all.0) (all_scalars_in cs all.1)

characters_in : (cs : List ℕ) → all_scalars cs ≡ true → AllByRecursion IsCharacter cs
characters_in [] e = tt
characters_in (c ∷ cs) e = let both = and_parts _ (all_scalars cs) e in (IsCharacter-from_scalar c both.0, characters_in cs both.1)

pub fits_from : (t : List ℕ) → IsText t → length (encode_utf8_all t) ≤ 1_048_576 → fits t ≡ true
fits_from t is few = and_from _ _ (all_scalars_in t (recursion_from_All IsCharacter t is)) (le-leb _ _ few)

pub is_text : (t : List ℕ) → fits t ≡ true → IsText t
is_text t fit = All-from_recursion IsCharacter t (characters_in t (and_parts _ (nat_le (length (encode_utf8_all t)) 1_048_576) fit).0)

and_false : (a b : Bool) → b ≡ false → (a && b) ≡ false
and_false true b e = e
and_false false b e = refl

pub too_long : (t : List ℕ) → 1_048_576 < length (encode_utf8_all t) → fits t ≡ false
too_long t many = and_false (all_scalars t) _ (lt-leb _ _ many)

-- what UTF-8 spells fits where it is short enough, and nowhere else
pub spelled_fits : (bs : List ℕ) → IsUtf8 bs → length bs ≤ 1_048_576 → fits (chars bs) ≡ true
spelled_fits bs utf8 few =
    let same : length (encode_utf8_all (chars bs)) ≡ length bs = ap length (encodes-chars bs utf8) in
    and_from _ _ (scalars-chars bs utf8) (le-leb _ _ (omega (arith, same, few)))

pub spelled_large : (bs : List ℕ) → IsUtf8 bs → 1_048_576 < length bs → fits (chars bs) ≡ false
spelled_large bs utf8 many =
    let same : length (encode_utf8_all (chars bs)) ≡ length bs = ap length (encodes-chars bs utf8) in
    too_long (chars bs) (omega (arith, same, many))

pub large_from : (bs : List ℕ) → IsUtf8 bs → fits (chars bs) ≡ false → 1_048_576 < length bs
large_from bs utf8 over = by (nat_le (length bs) 1_048_576) refl
  where
    by : (b : Bool) → nat_le (length bs) 1_048_576 ≡ b → 1_048_576 < length bs
    by true e = absurd (let yes = spelled_fits bs utf8 (leb-true _ _ e) in let f : ⊥ = cc in f)
    by false e = leb-false _ _ e

-- a text that fits is what its UTF-8 spells
pub spelled_again : (t : List ℕ) → fits t ≡ true → chars (encode_utf8_all t) ≡ t
spelled_again t fit = chars-encodes t (and_parts _ (nat_le (length (encode_utf8_all t)) 1_048_576) fit).0
