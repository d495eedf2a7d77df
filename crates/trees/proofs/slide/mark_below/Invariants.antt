use Rattle.trees.proofs.Std.{◌≡◌, ◌≤◌, List, [], length}
use Rattle.trees.proofs.Common.{Child, trees_from, owed, IsClosedFrom, AreMarked}
use Rattle.trees.proofs.slide.mark_below.Given as goal

abbrev pub invariant-loop-i : goal.invariant-loop-i
invariant-loop-i l = record {
  within : l.i ≤ length l.fn.stored;
  long : length l.marks ≡ length l.fn.stored;
  kept : (children : List Child) → AreMarked l.fn.marks children → AreMarked l.marks children;
  closed : IsClosedFrom l.i l.fn.stored l.marks;
  few : owed l.i (trees_from [] l.fn.stored) l.marks ≤ owed (length l.fn.stored) (trees_from [] l.fn.stored) l.fn.marks;
}

abbrev pub decreases-loop-i : goal.decreases-loop-i
decreases-loop-i l = l.i
