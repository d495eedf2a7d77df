use Rattle.tables.proofs.Std.{◌≡◌, ◌<◌, ℕ, None, length, slice_index_or}
use Rattle.tables.proofs.Common.{lookahead_at, IsChosen}
use Rattle.tables.proofs.decisions.moves_of.Given as goal

abbrev pub invariant-loop-column : goal.invariant-loop-column
invariant-loop-column l = record {
  filled : length l.moves.items ≡ l.column;
  each : (k : ℕ) → k < length l.moves.items → IsChosen l.grammar.grammar l.calling l.row (lookahead_at k) (slice_index_or l.moves.items k None);
}
