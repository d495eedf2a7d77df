use Rattle.patterns.proofs.Std.{arith, common_steps}
use Rattle.patterns.proofs.characters.escape_at.Goals as goal

pub returns-in_default : goal.returns-in_default
returns-in_default c = grind (arith, common_steps)

pub returns-in-n : goal.returns-in-n
returns-in-n c = grind (arith, common_steps)

pub returns-in-r : goal.returns-in-r
returns-in-r c = grind (arith, common_steps)

pub returns-in-34 : goal.returns-in-34
returns-in-34 c = grind (arith, common_steps)

pub returns-in-t : goal.returns-in-t
returns-in-t c = grind (arith, common_steps)
