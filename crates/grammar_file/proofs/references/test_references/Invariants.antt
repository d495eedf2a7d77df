use Rattle.grammar_file.proofs.Std.{take}
use Rattle.grammar_file.proofs.Common.{HaveReferents, lines_view}
use Rattle.grammar_file.proofs.references.test_references.Given as goal

abbrev pub invariant-loop-statement : goal.invariant-loop-statement
invariant-loop-statement l = HaveReferents (lines_view l.statements) (lines_view (take l.statement-index l.statements))
