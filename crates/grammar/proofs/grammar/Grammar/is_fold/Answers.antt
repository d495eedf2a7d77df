use Rattle.std.proofs.Common.{rules}
use Rattle.grammar.proofs.grammar.Grammar.is_fold.Goals as goal

pub returns : goal.returns
returns c = search rules
