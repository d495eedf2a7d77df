use Rattle.patterns.proofs.Std.{◌≡◌, ℕ, ◌≤◌, length, true}
use Rattle.patterns.proofs.Common.{InLiteral, fault_from, is_empty, writing}
use Rattle.patterns.proofs.Literals.{IsLiteralSoFar}
use Rattle.patterns.proofs.classes.Reader.literal.Given as goal

abbrev pub invariant-loop-rest : goal.invariant-loop-rest
invariant-loop-rest l =
    IsLiteralSoFar l.characters.items (writing l.words) (writing l.left)
    × ((depth : ℕ) → fault_from l.self.end (InLiteral depth l.quote true) (writing l.words) ≡ fault_from l.self.end (InLiteral depth l.quote (is_empty l.characters.items)) (writing l.left))
    × (length l.left ≤ length l.words)

abbrev pub decreases-loop-rest : goal.decreases-loop-rest
decreases-loop-rest l = length l.left
