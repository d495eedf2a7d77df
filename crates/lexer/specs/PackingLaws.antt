-- The stamp and the shape of a token are those that it was unpacked from.
use Rattle.std.specs.Prelude.{◌≡◌, ℕ, zero, suc, ◌+◌, ◌*◌, ◌/◌, ◌%◌, ◌^◌, ◌<◌, nat_eq, refl, if◌then◌else◌}
use Rattle.std.proofs.Common.{arith}
use Rattle.lexer.specs.declared.packed.PackedToken.TheInside.{Inside}
use Rattle.lexer.specs.Packing.{code, short_kind_of, unpack, pack}

code-short_kind_of : (n : ℕ) → code (short_kind_of n) ≡ n
code-short_kind_of zero = refl
code-short_kind_of (suc n) = refl

mark : (m : ℕ) → m < 2 → (if nat_eq m 1 then 2 ^ 42 else 0) ≡ m * 2 ^ 42
mark zero h = refl
mark (suc zero) h = refl
mark (suc (suc m)) h = absurd (omega arith)

parts : (s : ℕ) → s % 2 ^ 21 + s / 2 ^ 21 % 2 ^ 21 * 2 ^ 21 + s / 2 ^ 42 % 2 * 2 ^ 42 + s / 2 ^ 43 * 2 ^ 43 ≡ s
parts s = omega arith

pub pack-unpack : (p : Inside) → pack (unpack p) ≡ p
pack-unpack p = λ i. record { born = p.born; shape = same i }
  where
    same : (pack (unpack p)).shape ≡ p.shape
    same = omega (arith, parts p.shape, code-short_kind_of (p.shape / 2 ^ 43), mark (p.shape / 2 ^ 42 % 2) (omega arith))
