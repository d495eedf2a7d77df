use Rattle.views.proofs.Children.{IsSearching}
use Rattle.views.proofs.selections.branch_around.Given as goal

abbrev pub invariant-loop-child : goal.invariant-loop-child
invariant-loop-child l = IsSearching l.store l.fn.children l.from l.point l.child-iterator l.start
