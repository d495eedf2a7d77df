use Rattle.server.proofs.Common.{state_view}
use Rattle.server.proofs.Loop.{IsReady}
use Rattle.server.proofs.stream.serve.Given as goal

abbrev pub invariant-loop-count : goal.invariant-loop-count
invariant-loop-count g l =
    let read = g.R.Input.remaining in
    let out_bytes = g.W.Output.contents in
    let works = g.R.Input.failures l.input in
    IsReady (state_view l.fn.server).file (read l.fn.input) (read l.input) works (out_bytes l.fn.output) (out_bytes l.output) (g.W.Output.failures l.output) l.decoder (state_view l.server)

abbrev pub decreases-loop-count : goal.decreases-loop-count
decreases-loop-count g l = g.R.Input.reads_left l.input
