use Rattle.parser.proofs.Std.{length}
use Rattle.parser.proofs.Common.{Skips}
use Rattle.parser.proofs.input.Input.skip_empty.Given as goal

abbrev pub invariant-empty : goal.invariant-empty
invariant-empty l = Skips l.store l.fn.self l.self

abbrev pub decreases-empty : goal.decreases-empty
decreases-empty l = length l.self
