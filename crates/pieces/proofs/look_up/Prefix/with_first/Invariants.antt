use Rattle.pieces.proofs.Std.{◌≡◌, ℕ, ◌+◌, ◌^◌, ◌≤◌, List, ◌++◌, length, chars}
use Rattle.pieces.proofs.Common.{Utf8, units, prefix_of, with_ones}
use Rattle.pieces.proofs.look_up.Prefix.with_first.Given as goal

abbrev pub invariant-loop-c : goal.invariant-loop-c
invariant-loop-c l = record {
  counted : l.left + length l.yielded ≡ l.count;
  prefix : (s : List ℕ) → units Utf8 (s ++ chars l.text) ≤ 2 ^ 30 → l.fn.self ≡ prefix_of l.unit s → with_ones l.prefix l.ones ≡ prefix_of l.unit (s ++ l.yielded);
}
