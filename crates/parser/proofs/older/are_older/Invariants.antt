use Rattle.parser.proofs.Std.{ℕ, length}
use Rattle.parser.proofs.Common.{AreBelow, all_trees, plain_of, ComeFrom, AreOlder}
use Rattle.parser.proofs.LeftEdge.{weight}
use Rattle.parser.proofs.older.are_older.Given as goal

-- what is left stands in the trees, and where it is older, so are all of them
abbrev pub invariant-trees : goal.invariant-trees
invariant-trees l = record {
  below : AreBelow (length l.store) l.rest;
  came : (place : ℕ) × ComeFrom (all_trees l.store l.fn.children) place (all_trees l.store l.rest);
  so_far : AreOlder l.number (all_trees l.store l.rest) → AreOlder l.number (all_trees l.store l.fn.children);
}

abbrev pub decreases-trees : goal.decreases-trees
decreases-trees l = weight (plain_of l.store l.rest)
