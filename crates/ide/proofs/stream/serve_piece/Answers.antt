use Rattle.ide.proofs.Std.{[], err_from_is_err_and, subst, sym, ◌++◌}
use Rattle.ide.proofs.Common.{contents, state_of, RunFault, IsCutShort, cancels}
use Rattle.ide.proofs.CutSessions.{cut_off, looked_then, part_later, part_on}
use Rattle.ide.proofs.stream.serve_piece.Goals as goal

pub returns : goal.returns
returns g c =
    let out_bytes = g.W.Output.contents in
    let first = state_of c.args.server.now in
    let mid = state_of c.serve_look.new.server in
    let last = state_of c.serve_all.new.server in
    looked_then (out_bytes c.args.output.now) (out_bytes c.serve_look.new.output) (out_bytes c.serve_all.new.output)
    (g.W.Output.failures c.serve_all.new.output) first mid (contents c.args.frames.items) c.serve_all.result last
    c.in_ok-serve_look.ensures.written c.serve_all.ensures

pub returns-in_err-serve_look : goal.returns-in_err-serve_look
returns-in_err-serve_look g c =
    let old = g.W.Output.contents c.args.output.now in
    let new = g.W.Output.contents c.serve_look.new.output in
    let failures = g.W.Output.failures c.serve_look.new.output in
    let first = state_of c.args.server.now in
    let all = contents c.args.frames.items in
    let p = err_from_is_err_and c.from_residual.result c.from_residual.ensures.1 in
    let cut : IsCutShort p.0 failures = subst (λ (e : RunFault). IsCutShort e failures) (sym p.2) c.in_err-serve_look.ensures.fault in
    let part = part_on old new first [] all [] (part_later old new first [] [] (cancels all ++ []) c.in_err-serve_look.ensures.part) in
    cut_off old new failures first all [] _ _ p.0 p.1 cut part
