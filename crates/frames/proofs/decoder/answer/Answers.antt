use Rattle.frames.proofs.Std.{arith, rules, common_steps}
use Rattle.frames.proofs.decoder.answer.Goals as goal

pub returns-in-Some-clause-fault : goal.returns-in-Some-clause-fault
returns-in-Some-clause-fault c = (grind (arith, common_steps, c.if-is_empty.ensures), c.in-Some.is)

pub returns-in_default-clause-none : goal.returns-in_default-clause-none
returns-in_default-clause-none c = search rules
