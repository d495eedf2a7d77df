use Rattle.server.proofs.Std.{◌≡◌, ◌++◌, None, into_iter_items}
use Rattle.server.proofs.Common.{contents, Served, state_view}
use Rattle.server.proofs.stream.serve_all.Given as goal

abbrev pub invariant-loop-frame : goal.invariant-loop-frame
invariant-loop-frame g l =
    let out_bytes = g.W.Output.contents in
    record {
      served : Served (out_bytes l.fn.output) (out_bytes l.output) (state_view l.fn.server) (contents l.yielded) None (state_view l.server);
      works : g.W.Output.failures l.output ≡ 0;
      all : l.yielded ++ into_iter_items l.frame-iterator ≡ l.fn.frames.items;
    }
