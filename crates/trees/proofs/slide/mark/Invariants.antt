use Rattle.trees.proofs.Std.{◌≡◌, length}
use Rattle.trees.proofs.Common.{AreBelow, mark_all}
use Rattle.trees.proofs.slide.mark.Given as goal

abbrev pub invariant-loop-child : goal.invariant-loop-child
invariant-loop-child l = record { below : AreBelow (length l.marks) l.child-iterator; done : mark_all l.marks l.child-iterator ≡ mark_all l.fn.marks l.fn.children }
