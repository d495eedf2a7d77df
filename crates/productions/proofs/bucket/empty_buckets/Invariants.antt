use Rattle.std.proofs.Common.{◌≡◌, ℕ, [], length, slice_index_or}
use Rattle.productions.proofs.bucket.empty_buckets.Given as goal

abbrev pub invariant-loop-n : goal.invariant-loop-n
invariant-loop-n g l = record { count : length l.buckets.items ≡ l._n; empty : (n : ℕ) → slice_index_or l.buckets.items n [] ≡ [] }
