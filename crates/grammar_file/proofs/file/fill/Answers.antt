use Rattle.grammar_file.proofs.Std.{err_from_is_err_and, ◌∙◌, ap}
use Rattle.grammar_file.proofs.Common.{lines_view}
use Rattle.grammar_file.proofs.Files.{reference_fault}
use Rattle.grammar_file.proofs.file.fill.Goals as goal

pub returns-in_err-test_references-clause-fault : goal.returns-in_err-test_references-clause-fault
returns-in_err-test_references-clause-fault c =
    let read = c.in_ok-read_lines.ensures in
    let h = reference_fault c.args.text.now (lines_view c.deref.result.now) c.in_err-test_references.field-0.0 read.whole
    (ap lines_view c.deref.ensures.value ∙ read.read.statements) c.in_err-test_references.ensures.fault in
    let p = err_from_is_err_and c.from_residual-in_err-test_references.result c.from_residual-in_err-test_references.ensures.1 in
    rw (p.1, p.2) h
