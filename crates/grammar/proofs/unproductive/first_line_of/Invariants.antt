use Rattle.grammar.proofs.Std.{◌≡◌, false, take, list_any}
use Rattle.grammar.proofs.Common.{is_production_of, lines_view}
use Rattle.grammar.proofs.unproductive.first_line_of.Given as goal

abbrev pub invariant-loop-statement : goal.invariant-loop-statement
invariant-loop-statement l = list_any (λ s. is_production_of l.name s.says) (lines_view (take l.statement-index l.statements)) ≡ false
