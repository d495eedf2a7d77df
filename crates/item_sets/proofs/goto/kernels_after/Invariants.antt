use Rattle.item_sets.proofs.Std.{◌≡◌, ◌+◌, ◌<◌, ℕ, [], length, slice_index_or}
use Rattle.item_sets.proofs.Common.{ShiftsUpTo, symbol_of}
use Rattle.item_sets.proofs.goto.kernels_after.Given as goal

abbrev pub invariant-loop-item : goal.invariant-loop-item
invariant-loop-item l = record {
  count : length l.kernels.items ≡ l.grammar.grammar.rules + l.grammar.nonterminals;
  each : (k : ℕ) → k < length l.kernels.items → ShiftsUpTo l.grammar.grammar l.items l.item-index (symbol_of l.grammar.grammar k) (slice_index_or l.kernels.items k []);
}
