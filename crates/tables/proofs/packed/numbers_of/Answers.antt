use Rattle.tables.proofs.Std.{arith, common_steps}
use Rattle.tables.proofs.packed.numbers_of.Goals as goal

pub returns : goal.returns
returns c = grind (arith, common_steps)

pub loop-entry-preserved : goal.loop-entry-preserved
loop-entry-preserved c = grind (arith, common_steps)
