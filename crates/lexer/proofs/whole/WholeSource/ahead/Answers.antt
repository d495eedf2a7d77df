use Rattle.std.proofs.Common.{rules}
use Rattle.lexer.proofs.whole.WholeSource.ahead.Goals as goal

pub returns : goal.returns
returns c = search rules
