use Rattle.trees.proofs.Std.{◌≡◌, take}
use Rattle.trees.proofs.Common.{rank, AreRanks}
use Rattle.trees.proofs.slide.ranks.Given as goal

abbrev pub invariant-loop-mark : goal.invariant-loop-mark
invariant-loop-mark l = record { count : l.count ≡ rank l.fn.marks l.mark-index; ranks : AreRanks (take l.mark-index l.fn.marks) l.ranks.items }
