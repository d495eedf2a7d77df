-- The position of a later offset isn't before that of an earlier one.
use Rattle.colours.proofs.Std.{◌-◌, ◌≤◌, ◌≡◌, ◌∷◌, Bool, List, [], arith, false, nat_le, refl, subst, take, true, ℕ, leb-true, le-leb, take-take, sum_by-take-le}
use Rattle.colours.proofs.Common.{ended, ended-cons, break_ends, line_from, line_of, line_start, position, units, Encoding, IsUpTo}
use Rattle.definitions.specs.Text.{unit}

ended-mono : (o p : ℕ) (ends : List ℕ) → o ≤ p → ended o ends ≤ ended p ends
ended-mono o p [] l = omega arith
ended-mono o p (e ∷ ends) l = go (nat_le e o) refl (nat_le e p) refl (ended-mono o p ends l)
  where
    go : (a : Bool) → nat_le e o ≡ a → (b : Bool) → nat_le e p ≡ b → ended o ends ≤ ended p ends → ended o (e ∷ ends) ≤ ended p (e ∷ ends)
    go false x b y h = omega (arith, ended-cons o e ends false x, ended-cons p e ends b y, h)
    go true x true y h = omega (arith, ended-cons o e ends true x, ended-cons p e ends true y, h)
    go true x false y h = absurd (cc (le-leb e p (omega (arith, leb-true e o x))))

line_of-mono : (t : List ℕ) (o p : ℕ) → o ≤ p → line_of t o ≤ line_of t p
unfolding line_of
line_of-mono t o p l = ended-mono o p (break_ends 0 t) l

units-mono : (encoding : Encoding) (line : List ℕ) (m n : ℕ) → m ≤ n → units encoding (take m line) ≤ units encoding (take n line)
unfolding units
units-mono encoding line m n l =
    subst (λ (xs : List ℕ). units encoding xs ≤ units encoding (take n line)) (take-take m n line l) (sum_by-take-le (unit encoding) (take n line) m)

pub position-mono : (encoding : Encoding) (t : List ℕ) (o p : ℕ) → o ≤ p → IsUpTo (position encoding t o) (position encoding t p)
unfolding position
position-mono encoding t o p l = record {
  lines = line_of-mono t o p l;
  units = λ (same : line_of t o ≡ line_of t p).
      subst (λ (k : ℕ). units encoding (take (o - line_start t (line_of t o)) (line_from (line_start t (line_of t o)) t))
      ≤ units encoding (take (p - line_start t k) (line_from (line_start t k) t))) same
      (units-mono encoding (line_from (line_start t (line_of t o)) t) (o - line_start t (line_of t o)) (p - line_start t (line_of t o)) (omega arith));
}
