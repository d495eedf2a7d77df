use Rattle.grammar_file.proofs.Std.{IfSome_then, err_from_is_err_and}
use Rattle.grammar_file.proofs.Common.{line_view, lines_view, IsLineFault, ReportsCause}
use Rattle.grammar_file.proofs.Lines.{late-own, late_line_fault}
use Rattle.grammar_file.proofs.statements.File.test.Goals as goal

pub returns-in_err-test_line_limit-clause-fault : goal.returns-in_err-test_line_limit-clause-fault
returns-in_err-test_line_limit-clause-fault c =
    let ss = lines_view c.args.self.now.statements.items in
    let l = line_view c.args.line.now in
    let h : ReportsCause c.in_err-test_line_limit.field-0.0 (IsLineFault ss l) = IfSome_then _ c.in_err-test_line_limit.ensures
    (λ cause is. late_line_fault ss l _ cause c.in_ok-test_early.ensures c.in_ok-pattern.ensures.pattern (late-own ss l cause is)) in
    let p = err_from_is_err_and c.from_residual-in_err-test_line_limit.result c.from_residual-in_err-test_line_limit.ensures.1 in
    rw (p.1, p.2) h
