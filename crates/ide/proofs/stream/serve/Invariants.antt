use Rattle.ide.proofs.Common.{state_of}
use Rattle.ide.proofs.Loop.{IsReady}
use Rattle.ide.proofs.stream.serve.Given as goal

abbrev pub invariant-loop-count : goal.invariant-loop-count
invariant-loop-count g l =
    let read = g.R.Input.remaining in
    let out_bytes = g.W.Output.contents in
    let works = g.R.Input.failures l.input in
    record {
      ready : IsReady (state_of l.fn.server).shown (state_of l.fn.server).core.file (read l.fn.input) (read l.input) works (out_bytes l.fn.output) (out_bytes l.output)
          (g.W.Output.failures l.output) l.decoder (state_of l.server);
    }

abbrev pub decreases-loop-count : goal.decreases-loop-count
decreases-loop-count g l = g.R.Input.reads_left l.input
