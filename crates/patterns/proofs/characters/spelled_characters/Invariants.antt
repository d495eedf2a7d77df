use Rattle.patterns.proofs.Std.{◌≡◌, ◌-◌, ◌≤◌, ◌++◌, length, drop}
use Rattle.patterns.proofs.Common.{written, writing}
use Rattle.patterns.proofs.characters.spelled_characters.Given as goal

abbrev pub invariant-loop-place : goal.invariant-loop-place
invariant-loop-place l =
    (writing l.words.items ++ written l.place (drop l.place l.text) ≡ written 0 l.text) × (l.place ≤ length l.text)

abbrev pub decreases-loop-place : goal.decreases-loop-place
decreases-loop-place l = length l.text - l.place
