use Rattle.tables.proofs.Std.{arith, common_steps}
use Rattle.tables.proofs.packed.Entries.at.Goals as goal

pub returns-in_ok-get-in-Narrow : goal.returns-in_ok-get-in-Narrow
returns-in_ok-get-in-Narrow c = grind (arith, common_steps)

pub returns-in_err-get-in-Narrow : goal.returns-in_err-get-in-Narrow
returns-in_err-get-in-Narrow c = grind (arith, common_steps)
