use Rattle.patterns.proofs.Std.{ℕ, ◌<◌, ◌≤◌, ◌^◌, arith, lit<, pow-le-pow_right, common_steps}
use Rattle.patterns.proofs.characters.by_number.Goals as goal

below : (k v : ℕ) → k ≤ 5 → v < 16 ^ k → v < 1048576
below k v h b = let g : 16 ^ k ≤ 16 ^ 5 = pow-le-pow_right {n = 16} (lit< tt) {i = k} {j = 5} h in omega arith

pub overflow_mul-value : goal.overflow_mul-value
overflow_mul-value c = let h = below c.loop-count.count c.loop-count.value (omega arith) c.loop-count.invariant.1 in omega arith

pub overflow_add-value : goal.overflow_add-value
overflow_add-value c = let h = below c.loop-count.count c.loop-count.value (omega arith) c.loop-count.invariant.1 in omega (arith, c.in_ok-digit.ensures.value)

pub returns-then-branch-ne123 : goal.returns-then-branch-ne123
returns-then-branch-ne123 c = grind (arith, common_steps)

pub returns-in-loop-count : goal.returns-in-loop-count
returns-in-loop-count c = grind (arith, common_steps)

pub loop-count-preserved : goal.loop-count-preserved
loop-count-preserved c = grind (arith, common_steps)

pub returns-in_err-digit : goal.returns-in_err-digit
returns-in_err-digit c = grind (arith, common_steps)

pub returns-then-count-eq6 : goal.returns-then-count-eq6
returns-then-count-eq6 c = grind (arith, common_steps)

pub loop-count-init : goal.loop-count-init
loop-count-init c = grind (arith, common_steps)
