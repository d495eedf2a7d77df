use Rattle.std.proofs.Common.{rules}
use Rattle.seqtree.proofs.seq.Seq.iter_from.Goals as goal

pub returns : goal.returns
returns g c = search rules
