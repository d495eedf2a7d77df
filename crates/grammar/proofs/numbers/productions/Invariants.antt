use Rattle.grammar.proofs.Std.{◌≡◌, take, map}
use Rattle.grammar.proofs.Common.{productions, production_of, lines_view}
use Rattle.grammar.proofs.numbers.productions.Given as goal

abbrev pub invariant-loop-statement : goal.invariant-loop-statement
invariant-loop-statement l = l.found.items ≡ map (production_of l.names.nonterminals (map (λ r. r.name) l.names.rules)) (productions (lines_view (take l.statement-index l.statements)))
