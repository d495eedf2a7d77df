use Rattle.grammar.proofs.Std.{arith, common_steps}
use Rattle.grammar.proofs.grammar.Grammar.nonterminal_name.Goals as goal

pub returns : goal.returns
returns c = grind (arith, common_steps)
