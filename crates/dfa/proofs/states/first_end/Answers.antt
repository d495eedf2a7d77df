use Rattle.dfa.proofs.Std.{arith, common_steps}
use Rattle.dfa.proofs.states.first_end.Goals as goal

pub returns-then-ends : goal.returns-then-ends
returns-then-ends c = grind (arith, common_steps)

pub overflow_add-at : goal.overflow_add-at
overflow_add-at c = grind (arith, common_steps)

pub loop-k-preserved : goal.loop-k-preserved
loop-k-preserved c = grind (arith, common_steps)
