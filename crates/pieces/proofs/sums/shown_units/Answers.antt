use Rattle.std.proofs.Common.{rules}
use Rattle.pieces.proofs.sums.shown_units.Goals as goal

pub returns : goal.returns
returns c = search rules
