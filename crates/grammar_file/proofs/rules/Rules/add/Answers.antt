use Rattle.grammar_file.proofs.Std.{arith, common_steps}
use Rattle.grammar_file.proofs.rules.Rules.add.Goals as goal

pub invariant_of-self-2 : goal.invariant_of-self-2
invariant_of-self-2 c = grind (arith, common_steps)

pub returns : goal.returns
returns c = grind (arith, common_steps)
