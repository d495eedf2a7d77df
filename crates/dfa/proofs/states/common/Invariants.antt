use Rattle.dfa.proofs.Std.{◌≡◌, ◌++◌, drop}
use Rattle.dfa.proofs.Common.{kept, marks_of}
use Rattle.dfa.proofs.states.common.Given as goal

abbrev pub invariant-loop-p : goal.invariant-loop-p
invariant-loop-p l = l.set.items ++ kept (marks_of l.many) (drop l.p-index l.few) ≡ kept (marks_of l.many) l.few
