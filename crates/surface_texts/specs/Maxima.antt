-- Numbers are a monoid with the greater of two as the operation and 0 as the unit.
use Rattle.std.specs.Prelude.{◌≡◌, ℕ, true, max, nat_le}
use Rattle.std.proofs.Common.{arith, ◌≤◌}
use Rattle.std.proofs.lemmas.Bool.{le-leb, leb-true}

pub max_left_unit : (a : ℕ) → max 0 a ≡ a
max_left_unit a = omega arith

pub max_right_unit : (a : ℕ) → max a 0 ≡ a
max_right_unit a = omega arith

pub max_assoc : (a b c : ℕ) → max (max a b) c ≡ max a (max b c)
max_assoc a b c = omega arith

pub max_stays : (least a b : ℕ) → nat_le least a ≡ true → nat_le least (max a b) ≡ true
max_stays least a b h = let l : least ≤ a = leb-true _ _ h in le-leb _ _ (omega arith)
