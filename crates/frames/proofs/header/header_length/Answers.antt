use Rattle.frames.proofs.Std.{◌≡◌, ◌<◌, ◌∙◌, length, sym, ap, arith, length-drop, Err, err_from_is_err_and}
use Rattle.frames.proofs.Common.{FrameFault, header_length}
use Rattle.frames.proofs.Faults.{header_small, header_fails}
use Rattle.frames.proofs.Lines.{line_passed, line_failed, lines_passed}
use Rattle.frames.proofs.header.header_length.Goals as goal

failed : (c : goal.After-from_residual) → c.from_residual.result ≡ header_length c.args.part.now
failed c =
    let p = err_from_is_err_and c.from_residual.result c.from_residual.ensures.1 in
    p.1 ∙ ap (λ (fault : FrameFault). Err fault) p.2
    ∙ sym (c.loop-size.invariant ∙ line_failed c.loop-size.rest.now c.in-Some.size c.loop-size.given (sym c.in-Some.ensures.value) c.in_err-given.field-0.0 c.in_err-given.ensures)

pub returns-in_err-given-clause-value : goal.returns-in_err-given-clause-value
returns-in_err-given-clause-value c = failed c

pub returns-in_err-given-clause-bound : goal.returns-in_err-given-clause-bound
returns-in_err-given-clause-bound c = header_small c.args.part.now c.from_residual.result (failed c)

pub returns-in_err-given-clause-fault : goal.returns-in_err-given-clause-fault
returns-in_err-given-clause-fault c = header_fails c.args.part.now c.from_residual.result (failed c)

pub loop-size-smaller : goal.loop-size-smaller
loop-size-smaller c =
    let smaller : length c.bytes_from-rest.result.now < length c.loop-size.rest.now =
    omega (arith, c.in-Some.ensures.low, c.in-Some.ensures.high, ap length c.bytes_from-rest.ensures, length-drop c.in-Some.size c.loop-size.rest.now)
    in
    smaller

pub loop-size-preserved : goal.loop-size-preserved
loop-size-preserved c =
    c.loop-size.invariant ∙ line_passed c.loop-size.rest.now c.in-Some.size c.loop-size.given
    (sym c.in-Some.ensures.value) c.bytes_from-rest.result.now c.in_ok-given.given c.bytes_from-rest.ensures c.in_ok-given.ensures

given : (c : goal.After-ok_or) → c.ok_or.result ≡ header_length c.args.part.now
given c = c.ok_or.ensures.value ∙ sym (c.loop-size.invariant ∙ lines_passed c.loop-size.rest.now c.loop-size.given (sym c.in_default.ensures.value))

pub returns-clause-value : goal.returns-clause-value
returns-clause-value c = given c

pub returns-clause-bound : goal.returns-clause-bound
returns-clause-bound c = header_small c.args.part.now c.ok_or.result (given c)

pub returns-clause-fault : goal.returns-clause-fault
returns-clause-fault c = header_fails c.args.part.now c.ok_or.result (given c)
