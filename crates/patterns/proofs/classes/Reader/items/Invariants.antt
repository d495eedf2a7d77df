use Rattle.patterns.proofs.Std.{◌≡◌, ℕ, ◌≤◌, [], length, Bool, true, list_all}
use Rattle.patterns.proofs.Common.{InClass, Items, fault_from, is_range, writing}
use Rattle.patterns.proofs.Literals.{IsClassSoFar}
use Rattle.patterns.proofs.classes.Reader.items.Given as goal

abbrev pub invariant-loop-rest : goal.invariant-loop-rest
invariant-loop-rest l =
    IsClassSoFar l.intervals.items (writing l.words) (writing l.left)
    × ((depth bracket : ℕ) (negated : Bool) → fault_from l.self.end (InClass depth bracket negated [] Items) (writing l.words) ≡ fault_from l.self.end
    (InClass depth bracket negated l.intervals.items Items) (writing l.left))
    × (list_all is_range l.intervals.items ≡ true) × (length l.left ≤ length l.words)

abbrev pub decreases-loop-rest : goal.decreases-loop-rest
decreases-loop-rest l = length l.left
