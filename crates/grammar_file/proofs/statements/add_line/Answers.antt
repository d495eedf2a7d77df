use Rattle.grammar_file.proofs.Std.{arith, common_steps}
use Rattle.grammar_file.proofs.statements.add_line.Goals as goal

pub returns : goal.returns
returns c = grind (arith, common_steps)
