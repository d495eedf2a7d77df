-- The columns of lookaheads.
use Rattle.productions.proofs.Std.{◌≡◌, ◌+◌, ◌-◌, ◌<◌, ◌==◌, ℕ, zero, suc, false, Option, Some, None, refl, sym, ap, ◌∙◌, subst, arith, IfSome, if◌then◌else◌, ne_eqb}
use Rattle.productions.proofs.Common.{lookahead_at, rank}

lookahead_at-suc : (a : ℕ) → lookahead_at (suc a) ≡ Some a
lookahead_at-suc a =
    let off : (suc a == 0) ≡ false = ne_eqb (suc a) 0 (λ e. absurd (omega (arith, e))) in
    let back : suc a - 1 ≡ a = omega arith in
    ap (λ b. if b then None else Some (suc a - 1)) off ∙ ap (λ n. Some n) back

-- a token rule stands in the column after its number
pub lookahead_at-rule : (a : ℕ) → lookahead_at (a + 1) ≡ Some a
lookahead_at-rule a = let next : suc a ≡ a + 1 = omega arith in subst (λ n. lookahead_at n ≡ Some a) next (lookahead_at-suc a)

pub rank-lookahead_at : (k : ℕ) → rank (lookahead_at k) ≡ k
rank-lookahead_at zero = refl
rank-lookahead_at (suc k) = let next : k + 1 ≡ suc k = omega arith in ap rank (lookahead_at-suc k) ∙ next

-- the lookahead of a column is one of the grammar's
pub lookahead_small : (rules k : ℕ) → k < rules + 1 → IfSome (lookahead_at k) (λ a. a < rules)
lookahead_small rules zero l = tt
lookahead_small rules (suc k) l = subst (λ y. IfSome y (λ a. a < rules)) (sym (lookahead_at-suc k)) (omega (arith, l))

-- each lookahead has a column
pub column_there : (rules : ℕ) (a : Option ℕ) → IfSome a (λ b. b < rules) → (k : ℕ) × (k < rules + 1) × (lookahead_at k ≡ a)
column_there rules None h = (0, omega arith, refl)
column_there rules (Some a) h = (a + 1, omega (arith, h), lookahead_at-rule a)
