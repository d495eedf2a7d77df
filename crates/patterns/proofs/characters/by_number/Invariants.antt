use Rattle.patterns.proofs.Std.{◌≡◌, ◌+◌, ◌<◌, ◌≤◌, ◌^◌, drop}
use Rattle.patterns.proofs.Common.{braced, digits}
use Rattle.patterns.proofs.characters.by_number.Given as goal

abbrev pub invariant-loop-count : goal.invariant-loop-count
invariant-loop-count l =
    (braced l.place (drop (l.place + 2) l.text) ≡ digits l.place l.count l.value (drop (l.place + 3 + l.count) l.text)) × (l.value < 16 ^ l.count) × (l.count ≤ 6)
