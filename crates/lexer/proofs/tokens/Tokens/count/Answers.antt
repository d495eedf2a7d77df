use Rattle.std.proofs.Common.{rules}
use Rattle.lexer.proofs.tokens.Tokens.count.Goals as goal

pub returns : goal.returns
returns c = search rules
