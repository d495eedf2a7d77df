use Rattle.std.proofs.Common.{rules}
use Rattle.lexer.proofs.characters.BytesSource.get.Goals as goal

pub returns : goal.returns
returns c = search rules
