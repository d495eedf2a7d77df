use Rattle.colours.proofs.Std.{◌-◌, ◌≤◌, ◌≡◌, length, drop}
use Rattle.colours.proofs.edits.back.Given as goal

abbrev pub invariant-loop-count : goal.invariant-loop-count
invariant-loop-count l = (l.count ≤ length l.a) × (l.count ≤ length l.b)
    × (drop (length l.a - l.count) l.a ≡ drop (length l.b - l.count) l.b)

abbrev pub decreases-loop-count : goal.decreases-loop-count
decreases-loop-count l = length l.a - l.count
