use Rattle.dfa.proofs.Std.{◌≡◌, ◌+◌, ◌++◌, drop}
use Rattle.dfa.proofs.Common.{marks_of, all_counts, all_tree_next}
use Rattle.dfa.proofs.states.followers.Given as goal

abbrev pub invariant-loop-tree : goal.invariant-loop-tree
invariant-loop-tree l = record {
  many : l.at + all_counts (drop l.tree-index l.trees) ≡ all_counts l.trees;
  next : l.out.items ++ all_tree_next (marks_of l.set) l.at l.start (drop l.tree-index l.trees) ≡ all_tree_next (marks_of l.set) 0 l.start l.trees;
}
