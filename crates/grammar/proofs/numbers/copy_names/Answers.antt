use Rattle.grammar.proofs.Std.{arith, common_steps}
use Rattle.grammar.proofs.numbers.copy_names.Goals as goal

pub loop-name-preserved : goal.loop-name-preserved
loop-name-preserved c = grind (arith, common_steps)

pub returns : goal.returns
returns c = grind (arith, common_steps)
