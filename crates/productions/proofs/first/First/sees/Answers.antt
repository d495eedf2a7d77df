use Rattle.std.proofs.Common.{rules}
use Rattle.productions.proofs.first.First.sees.Goals as goal

pub returns : goal.returns
returns c = search rules
