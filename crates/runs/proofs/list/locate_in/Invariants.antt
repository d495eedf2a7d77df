use Rattle.runs.proofs.Std.{◌≡◌, ℕ, ◌+◌, ◌<◌, take, false}
use Rattle.runs.proofs.Common.{total}
use Rattle.runs.proofs.list.locate_in.Given as goal

-- no item so far reaches it
abbrev pub invariant-loop-item : goal.invariant-loop-item
invariant-loop-item g l = record {
  counted : l.at ≡ l.item-index;
  summed : l.sum ≡ g.T.Sum.Monoid.op l.fn.before (total g.T.Sum.Monoid.empty g.T.Sum.Monoid.op g.T.Measured.measure (take l.item-index l.items));
  none : (k : ℕ) → k < l.item-index → g.G.Goal.reaches l.goal (g.T.Sum.Monoid.op l.fn.before (total g.T.Sum.Monoid.empty g.T.Sum.Monoid.op g.T.Measured.measure (take (k + 1) l.items))) ≡ false;
}
