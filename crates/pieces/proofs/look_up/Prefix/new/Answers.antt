use Rattle.pieces.proofs.KnownPrefix.{prefix-empty, prefix-filled}
use Rattle.pieces.proofs.look_up.Prefix.new.Goals as goal

pub returns-in_default : goal.returns-in_default
returns-in_default c = λ s is. prefix-empty c.args.unit s c.args.sums c.in_default.is is

pub returns : goal.returns
returns c = λ s is. prefix-filled c.args.unit s c.args.sums c.in-Filled.counts c.of.result c.in-Filled.is c.of.ensures is
