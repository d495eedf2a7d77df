use Rattle.lexer.proofs.Std.{arith, common_steps}
use Rattle.lexer.proofs.whole.WholeSource.pass.Goals as goal

pub returns-clause-moved : goal.returns-clause-moved
returns-clause-moved c = grind (arith, common_steps)
