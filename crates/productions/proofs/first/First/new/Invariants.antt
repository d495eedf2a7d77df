use Rattle.productions.proofs.Std.{◌≡◌, ◌<◌, ℕ, [], length, slice_index_or, Some}
use Rattle.productions.proofs.Common.{AreExact}
use Rattle.productions.proofs.first.First.new.Given as goal

abbrev pub invariant-loop-a : goal.invariant-loop-a
invariant-loop-a l = record {
  count : length l.rows.items ≡ l.a;
  wide : (a : ℕ) → a < length l.rows.items → length (slice_index_or l.rows.items a []) ≡ l.productions.nonterminals;
  exact : (a : ℕ) → a < length l.rows.items → AreExact l.productions.grammar (Some a) (slice_index_or l.rows.items a []);
}
