use Rattle.views.proofs.Std.{◌≡◌, ◌++◌, length, IfSome}
use Rattle.views.proofs.Common.{spans_all, trees_of_roots}
use Rattle.views.proofs.Children.{pending, IsNext}
use Rattle.views.proofs.selections.spans_around.Given as goal

-- the spans so far, and those to come, are all
abbrev pub invariant-loop-next : goal.invariant-loop-next
invariant-loop-next l = record {
  reported : l.spans.items ++ pending l.store l.point l.next ≡ spans_all l.point.reached l.point.first 0 (trees_of_roots l.store l.roots);
  next : IfSome l.next (IsNext l.store l.point);
}

abbrev pub decreases-loop-next : goal.decreases-loop-next
decreases-loop-next l = length (pending l.store l.point l.next)
