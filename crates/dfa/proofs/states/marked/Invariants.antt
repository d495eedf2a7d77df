use Rattle.dfa.proofs.Std.{◌≡◌, ◌++◌, drop}
use Rattle.dfa.proofs.Common.{kept}
use Rattle.dfa.proofs.states.marked.Given as goal

abbrev pub invariant-loop-p : goal.invariant-loop-p
invariant-loop-p l = l.set.items ++ kept l.marks (drop l.p-index l.holders) ≡ kept l.marks l.holders
