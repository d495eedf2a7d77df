use Rattle.item_sets.proofs.Common.{HaveBeginnings}
use Rattle.item_sets.proofs.worklist.Worklist.items.Given as goal

abbrev pub invariant-loop-index : goal.invariant-loop-index
invariant-loop-index l = HaveBeginnings l.self.grammar l.kernel l.self.rows l.index 0 l.items.items
