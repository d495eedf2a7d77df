use Rattle.std.proofs.Common.{rules}
use Rattle.lexer.proofs.packed.PackedToken.is_skipped.Goals as goal

pub returns : goal.returns
returns c = search rules
