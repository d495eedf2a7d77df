use Rattle.trees.proofs.Std.{arith, common_steps}
use Rattle.trees.proofs.node.pack_many.Goals as goal

pub returns-clause-are : goal.returns-clause-are
returns-clause-are c = grind (arith, common_steps)

pub loop-child-preserved : goal.loop-child-preserved
loop-child-preserved c = grind (arith, common_steps)
