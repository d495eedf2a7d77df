use Rattle.item_sets.proofs.Std.{List}
use Rattle.item_sets.proofs.Common.{Item, HaveBeginnings}
use Rattle.item_sets.proofs.worklist.Worklist.add_items.Given as goal

abbrev pub invariant-loop-column : goal.invariant-loop-column
invariant-loop-column l =
    (kernel : List Item) → HaveBeginnings l.self.grammar kernel l.self.rows l.fn.p 0 l.fn.items.items
    → HaveBeginnings l.self.grammar kernel l.self.rows l.fn.p l.column l.items.items
