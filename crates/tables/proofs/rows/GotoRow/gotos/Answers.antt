use Rattle.tables.proofs.Std.{arith, common_steps}
use Rattle.tables.proofs.rows.GotoRow.gotos.Goals as goal

pub returns : goal.returns
returns c = grind (arith, common_steps)
