use Rattle.grammar_file.proofs.Std.{IfSome_then}
use Rattle.grammar_file.proofs.Common.{lines_view}
use Rattle.grammar_file.proofs.Splits.{referents_more, first_reference_fault}
use Rattle.grammar_file.proofs.references.test_references.Goals as goal

pub returns-in-Err-clause-fault : goal.returns-in-Err-clause-fault
returns-in-Err-clause-fault c =
    let ns = c.args.statements.now in
    IfSome_then _ (c.in-Err.ensures (lines_view ns) c.requires)
    (λ cause. first_reference_fault ns c.loop-statement.statement-index c.statement-item.result cause c.loop-statement-test.true c.statement-item.is c.loop-statement.invariant)

pub loop-statement-preserved : goal.loop-statement-preserved
loop-statement-preserved c =
    let ns = c.args.statements.now in
    referents_more (lines_view ns) ns c.loop-statement.statement-index c.statement-item.result c.loop-statement-test.true c.statement-item.is c.loop-statement.invariant
    (c.in_default.ensures (lines_view ns) c.requires)
