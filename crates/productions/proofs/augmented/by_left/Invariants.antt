use Rattle.productions.proofs.Std.{◌≡◌, ◌<◌, ℕ, [], All, AllPairs, Contains, length, slice_index_or}
use Rattle.productions.proofs.Common.{left_of}
use Rattle.productions.proofs.augmented.by_left.Given as goal

abbrev pub invariant-loop-index : goal.invariant-loop-index
invariant-loop-index l = record {
  wide : length l.buckets.items ≡ l.productions.nonterminals;
  theirs : (n : ℕ) → All (λ p. (p < l.index) × (left_of l.productions.grammar p ≡ n)) (slice_index_or l.buckets.items n []);
  all : (p : ℕ) → p < l.index → Contains (slice_index_or l.buckets.items (left_of l.productions.grammar p) []) p;
  rising : (n : ℕ) → AllPairs (λ p q. p < q) (slice_index_or l.buckets.items n []);
}
