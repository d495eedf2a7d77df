use Rattle.std.proofs.Common.{rules}
use Rattle.lexer.proofs.sums.ShortKind.long.Goals as goal

pub returns-in-Rule : goal.returns-in-Rule
returns-in-Rule c = search rules
