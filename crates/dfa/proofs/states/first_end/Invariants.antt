use Rattle.dfa.proofs.Std.{◌≡◌, ◌+◌, drop}
use Rattle.dfa.proofs.Common.{marks_of, all_counts, first_tree_end}
use Rattle.dfa.proofs.states.first_end.Given as goal

abbrev pub invariant-loop-k : goal.invariant-loop-k
invariant-loop-k l = record {
  many : l.at + all_counts (drop l.k l.trees) ≡ all_counts l.trees;
  first : first_tree_end (marks_of l.set) l.at l.k (drop l.k l.trees) ≡ first_tree_end (marks_of l.set) 0 0 l.trees;
}
