use Rattle.lexer.proofs.Std.{◌≡◌, length}
use Rattle.lexer.proofs.Common.{significant_kinds}
use Rattle.lexer.proofs.ahead.KindsAheadIterator.next.Given as goal

-- only skipped tokens were passed
abbrev pub invariant-skipped : goal.invariant-skipped
invariant-skipped l = significant_kinds l.self-inside.tokens ≡ l.fn.self

abbrev pub decreases-skipped : goal.decreases-skipped
decreases-skipped l = length l.self-inside.tokens
