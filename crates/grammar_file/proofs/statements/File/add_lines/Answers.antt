use Rattle.grammar_file.proofs.Std.{IfSome_then, err_from_is_err_and}
use Rattle.grammar_file.proofs.Splits.{read_more, first_line_fault}
use Rattle.grammar_file.proofs.statements.File.add_lines.Goals as goal

pub loop-index-preserved : goal.loop-index-preserved
loop-index-preserved c = read_more c.args.version c.loop-index.self c.add.new.self c.args.lines.now c.loop-index.index _ _
    c.loop-index-test.true c.loop-index.invariant c.in_ok-line.ensures c.in_default.ensures.read

pub returns-in-Err-clause-fault : goal.returns-in-Err-clause-fault
returns-in-Err-clause-fault c = IfSome_then _ c.in-Err.ensures.fault.1
    (λ cause. first_line_fault c.args.version c.loop-index.self c.args.lines.now c.loop-index.index _ _ cause c.loop-index-test.true
    c.loop-index.invariant c.in_ok-line.ensures c.in-Err.ensures.fault.0)

pub returns-in_err-line-clause-fault : goal.returns-in_err-line-clause-fault
returns-in_err-line-clause-fault c =
    let p = err_from_is_err_and c.from_residual.result c.from_residual.ensures.1 in
    rw (p.1, p.2) tt
