use Rattle.patterns.proofs.Std.{◌≤◌, length}
use Rattle.patterns.proofs.Common.{writing, IsBlanks}
use Rattle.patterns.proofs.parts.skip_blanks.Given as goal

abbrev pub invariant-loop-after : goal.invariant-loop-after
invariant-loop-after l = IsBlanks (writing l.words) (writing l.rest) × (length l.rest ≤ length l.words)

abbrev pub decreases-loop-after : goal.decreases-loop-after
decreases-loop-after l = length l.rest
