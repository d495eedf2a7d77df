use Rattle.pieces.proofs.KnownPrefix.{ones-fit}
use Rattle.pieces.proofs.look_up.Prefix.with_ones.Goals as goal

pub returns : goal.returns
returns c = λ unit s few is. ones-fit unit s c.args.self c.args.count c.saturating_add.result c.saturating_add-2.result c.saturating_add.ensures c.saturating_add-2.ensures few is
