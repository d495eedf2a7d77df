use Rattle.ide.proofs.Std.{◌≡◌, take, map, Appends}
use Rattle.ide.proofs.Common.{message_view, bytes_of}
use Rattle.ide.proofs.stream.write_messages.Given as goal

abbrev pub invariant-loop-message : goal.invariant-loop-message
invariant-loop-message g l =
    let out_bytes = g.W.Output.contents in
    record { written : Appends (out_bytes l.fn.output) (out_bytes l.output) (bytes_of (map message_view (take l.message-index l.messages))); works : g.W.Output.failures l.output ≡ 0 }
