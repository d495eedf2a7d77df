use Rattle.std.proofs.Common.{rules}
use Rattle.grammar.proofs.numbers.start.Goals as goal

pub returns : goal.returns
returns c = search rules
