use Rattle.std.proofs.Common.{rules}
use Rattle.lexer.proofs.packed.PackedToken.length.Goals as goal

pub returns : goal.returns
returns c = search rules
