use Rattle.dfa.proofs.Std.{◌≡◌, ◌+◌, ℕ, ◌≤◌, length, slice_index_or, []}
use Rattle.dfa.proofs.Common.{all_holders, representative}
use Rattle.dfa.proofs.states.part_holders.Given as goal

abbrev pub invariant-loop-c : goal.invariant-loop-c
invariant-loop-c l = record {
  many : length l.parts.items ≡ l.c-index + 1;
  each : (k : ℕ) → k ≤ l.c-index → slice_index_or l.parts.items k [] ≡ all_holders (representative l.starts k) 0 l.patterns;
}
