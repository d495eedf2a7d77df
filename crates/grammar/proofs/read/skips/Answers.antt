use Rattle.grammar.proofs.Std.{arith, common_steps}
use Rattle.grammar.proofs.read.skips.Goals as goal

pub returns : goal.returns
returns c = grind (arith, common_steps)

pub loop-rule-preserved : goal.loop-rule-preserved
loop-rule-preserved c = grind (arith, common_steps)
