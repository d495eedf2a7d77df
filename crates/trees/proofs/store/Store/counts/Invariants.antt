use Rattle.trees.proofs.Std.{◌≡◌, ◌+◌, ◌≤◌, min, drop}
use Rattle.trees.proofs.Common.{most, tokens_below, branches_below}
use Rattle.trees.proofs.store.Store.counts.Given as goal

-- what is counted, with what is left to count, is the whole
abbrev pub invariant-loop-child : goal.invariant-loop-child
invariant-loop-child l = record {
  tokens_left : min most (l.tokens + tokens_below l.self (drop l.child-index l.children)) ≡ min most (tokens_below l.self l.children);
  size_left : min most (l.size + branches_below l.self (drop l.child-index l.children)) ≡ min most (1 + branches_below l.self l.children);
  tokens_fit : l.tokens ≤ most;
  size_fits : l.size ≤ most;
}
