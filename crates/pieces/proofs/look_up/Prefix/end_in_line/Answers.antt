use Rattle.std.proofs.Common.{rules}
use Rattle.pieces.proofs.look_up.Prefix.end_in_line.Goals as goal

pub returns-then-self-line : goal.returns-then-self-line
returns-then-self-line c = search rules
