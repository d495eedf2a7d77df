use Rattle.commands.proofs.Std.{arith, common_steps}
use Rattle.commands.proofs.conflicts.line.Goals as goal

pub returns : goal.returns
returns c = grind (arith, common_steps)
