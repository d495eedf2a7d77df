use Rattle.trees.proofs.Slides.{IsSlidTo}
use Rattle.trees.proofs.slide.slide.Given as goal

abbrev pub invariant-loop-i : goal.invariant-loop-i
invariant-loop-i l = record { slid : IsSlidTo l.fn.stored.items l.fn.marks l.fn.ranks l.i l.stored.items l.next }
