use Rattle.grammar.proofs.Std.{take}
use Rattle.grammar.proofs.Common.{IsClosed}
use Rattle.grammar.proofs.productive.next.Given as goal

abbrev pub invariant-loop-production : goal.invariant-loop-production
invariant-loop-production l = IsClosed (take l.production-index l.productions) l.marks
