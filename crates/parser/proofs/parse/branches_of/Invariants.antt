use Rattle.parser.proofs.Std.{◌≡◌, ◌+◌, ◌≤◌, min, drop}
use Rattle.parser.proofs.Common.{all_branches, most, plain_of}
use Rattle.parser.proofs.parse.branches_of.Given as goal

-- what is counted, with what is left to count, is the whole
abbrev pub invariant-loop-child : goal.invariant-loop-child
invariant-loop-child l = record {
  left : min most (l.branches + all_branches (plain_of l.store (drop l.child-index l.children))) ≡ min most (all_branches (plain_of l.store l.children));
  fit : l.branches ≤ most;
}
