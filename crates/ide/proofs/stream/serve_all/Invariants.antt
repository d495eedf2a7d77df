use Rattle.ide.proofs.Std.{◌≡◌, ◌++◌, [], drop, None, into_iter_items}
use Rattle.ide.proofs.Common.{contents, cancels, later_view, Served, state_of}
use Rattle.ide.proofs.stream.serve_all.Given as goal

abbrev pub invariant-loop-frame : goal.invariant-loop-frame
invariant-loop-frame g l =
    let out_bytes = g.W.Output.contents in
    let rest = into_iter_items l.frame-iterator in
    record {
      served : Served (out_bytes l.fn.output) (out_bytes l.output) (state_of l.fn.server) (contents l.yielded) (cancels (contents rest) ++ []) None (state_of l.server);
      later : later_view l.later ≡ cancels (drop 1 (contents rest));
      works : g.W.Output.failures l.output ≡ 0;
      all : l.yielded ++ rest ≡ l.fn.frames.items;
    }
