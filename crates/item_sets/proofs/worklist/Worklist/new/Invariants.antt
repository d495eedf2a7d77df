use Rattle.std.proofs.Common.{◌≡◌, ◌<◌, ℕ, [], length, slice_index_or, false}
use Rattle.item_sets.proofs.worklist.Worklist.new.Given as goal

abbrev pub invariant-loop-n : goal.invariant-loop-n
invariant-loop-n l = record {
  count : length l.rows.items ≡ l._n;
  wide : (n : ℕ) → n < length l.rows.items → length (slice_index_or l.rows.items n []) ≡ l.lookaheads;
  blank : (n : ℕ) → n < length l.rows.items → (k : ℕ) → slice_index_or (slice_index_or l.rows.items n []) k false ≡ false;
}
