use Rattle.dfa.proofs.MarkedSets.{Written}
use Rattle.dfa.proofs.states.write.Given as goal

abbrev pub invariant-loop-p : goal.invariant-loop-p
invariant-loop-p l = Written l.positions l.value l.fn.marks.items l.marks.items l.p-index
