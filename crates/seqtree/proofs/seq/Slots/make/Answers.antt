use Rattle.seqtree.proofs.Std.{arith, common_steps}
use Rattle.seqtree.proofs.seq.Slots.make.Goals as goal

pub returns : goal.returns
returns g c = grind (arith, common_steps)
