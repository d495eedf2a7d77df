use Rattle.pieces.proofs.Std.{◌≡◌, ℕ, ◌^◌, ◌≤◌, List, ◌++◌, chars}
use Rattle.pieces.proofs.Common.{Utf8, units, prefix_of, with_ones, room, IsPast, end_before_feed}
use Rattle.pieces.proofs.look_up.Prefix.offset_in.Given as goal

abbrev pub invariant-loop-c : goal.invariant-loop-c
invariant-loop-c l = record {
  few : l.ones ≤ l.room;
  room : l.room ≡ room l.prefix l.position;
  prefix :
      (s : List ℕ) → units Utf8 (s ++ chars l.text) ≤ 2 ^ 30 → l.fn.self ≡ prefix_of l.unit s → ¬ IsPast l.position (end_before_feed l.unit s)
      → (with_ones l.prefix l.ones ≡ prefix_of l.unit (s ++ l.yielded)) × ¬ IsPast l.position l.prefix.end;
}
