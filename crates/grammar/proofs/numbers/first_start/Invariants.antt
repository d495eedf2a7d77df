use Rattle.grammar.proofs.Std.{◌≡◌, drop}
use Rattle.grammar.proofs.Common.{starts, first_of, lines_view}
use Rattle.grammar.proofs.numbers.first_start.Given as goal

abbrev pub invariant-loop-statement : goal.invariant-loop-statement
invariant-loop-statement l = first_of (starts (lines_view l.statements)) ≡ first_of (starts (lines_view (drop l.statement-index l.statements)))
