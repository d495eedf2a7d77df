use Rattle.std.proofs.Common.{rules}
use Rattle.frames.proofs.header.add_length.Goals as goal

pub returns-then-is_some : goal.returns-then-is_some
returns-then-is_some c = search rules
