use Rattle.grammar.proofs.Std.{arith, common_steps}
use Rattle.grammar.proofs.numbers.symbols_of.Goals as goal

pub returns : goal.returns
returns c = grind (arith, common_steps)

pub loop-name-preserved : goal.loop-name-preserved
loop-name-preserved c = grind (arith, common_steps)
