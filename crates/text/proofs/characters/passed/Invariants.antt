use Rattle.std.proofs.Common.{◌-◌, ◌≤◌, ◌<◌, All, length, take, true}
use Rattle.text.proofs.characters.passed.Given as goal

abbrev pub invariant-loop-count : goal.invariant-loop-count
invariant-loop-count g l =
    record { inside : l.count ≤ length l.bytes; passed : All (λ c. (c < 128) × goal.F-post g l.test c true) (take l.count l.bytes) }

abbrev pub decreases-loop-count : goal.decreases-loop-count
decreases-loop-count g l = length l.bytes - l.count
