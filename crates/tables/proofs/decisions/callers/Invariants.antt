use Rattle.tables.proofs.Std.{◌<◌, ℕ, Option, All, Contains, slice_index_or}
use Rattle.tables.proofs.Common.{CallsFor, kind_of, Item, IsItem, item_of, LrMove as Move}
use Rattle.tables.proofs.decisions.callers.Given as goal

abbrev pub invariant-loop-item : goal.invariant-loop-item
invariant-loop-item l = record {
  known : All (IsItem l.grammar) l.called.items;
  within : (i : Item) → Contains l.called.items i → Contains l.items i;
  all : (k : ℕ) (d : Item) (look : Option ℕ) (move : Move) → k < l.item-index → CallsFor (item_of l.grammar.grammar (slice_index_or l.items k d)) (kind_of look) move
      → Contains l.called.items (slice_index_or l.items k d);
}
