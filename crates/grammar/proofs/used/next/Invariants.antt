use Rattle.grammar.proofs.Std.{take}
use Rattle.grammar.proofs.Common.{IsSpread}
use Rattle.grammar.proofs.used.next.Given as goal

abbrev pub invariant-loop-production : goal.invariant-loop-production
invariant-loop-production l = IsSpread (take l.production-index l.productions) l.marks
