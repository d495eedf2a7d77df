use Rattle.patterns.proofs.Std.{arith, common_steps}
use Rattle.patterns.proofs.characters.character_at.Goals as goal

pub returns-in-Some-clause-written : goal.returns-in-Some-clause-written
returns-in-Some-clause-written c = grind (arith, common_steps)
