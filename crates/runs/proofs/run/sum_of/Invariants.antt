use Rattle.runs.proofs.Std.{◌≡◌, take}
use Rattle.runs.proofs.Common.{total}
use Rattle.runs.proofs.run.sum_of.Given as goal

abbrev pub invariant-loop-item : goal.invariant-loop-item
invariant-loop-item g l = l.sum ≡ total g.T.Sum.Monoid.empty g.T.Sum.Monoid.op g.T.Measured.measure (take l.item-index l.items)
