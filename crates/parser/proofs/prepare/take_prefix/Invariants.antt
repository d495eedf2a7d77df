use Rattle.parser.proofs.Std.{◌≡◌, ◌+◌, ◌≤◌, ◌++◌, List, length}
use Rattle.parser.proofs.Common.{place_of, Child, AreBelow, most, IsSplitAt, plain_of}
use Rattle.parser.proofs.LeftEdge.{weight}
use Rattle.parser.proofs.prepare.take_prefix.Given as goal

-- the cut of what is left, after what has taken, is the cut of the whole
abbrev pub invariant-kinds : goal.invariant-kinds
invariant-kinds l = record {
  below : AreBelow (length l.store) (l.children ++ l.trees);
  countable : place_of (plain_of l.store (l.children ++ l.trees)) ≤ most;
  cut : (prefix back : List Child) → IsSplitAt l.store l.left (l.children ++ l.trees) prefix back → IsSplitAt l.store l.n l.fn.trees (l.taken.items ++ prefix) back;
  left : place_of (plain_of l.store l.taken.items) + l.left ≡ l.n;
}

abbrev pub decreases-kinds : goal.decreases-kinds
decreases-kinds l = weight (plain_of l.store (l.children ++ l.trees))
