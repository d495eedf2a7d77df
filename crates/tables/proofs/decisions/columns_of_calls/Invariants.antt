use Rattle.tables.proofs.Std.{◌≡◌, ◌<◌, ◌+◌, Option, true, false, length, slice_index_or, ℕ}
use Rattle.tables.proofs.Common.{CallsFor, kind_of, Item, item_of, rank, LrMove as Move}
use Rattle.tables.proofs.decisions.columns_of_calls.Given as goal

abbrev pub invariant-loop-item : goal.invariant-loop-item
invariant-loop-item l = record {
  long : length l.marks ≡ l.grammar.grammar.rules + 1;
  marked : (k : ℕ) (d : Item) (look : Option ℕ) → k < l.item-index → (m : Move) × CallsFor (item_of l.grammar.grammar (slice_index_or l.items k d)) (kind_of look) m
      → slice_index_or l.marks (rank look) false ≡ true;
}
