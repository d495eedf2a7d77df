use Rattle.server.proofs.Std.{◌≡◌, take, map, Appends}
use Rattle.server.proofs.Common.{reply_view, bytes_of}
use Rattle.server.proofs.stream.write_replies.Given as goal

abbrev pub invariant-loop-reply : goal.invariant-loop-reply
invariant-loop-reply g l =
    let out_bytes = g.W.Output.contents in
    record { written : Appends (out_bytes l.fn.output) (out_bytes l.output) (bytes_of (map reply_view (take l.reply-index l.replies))); works : g.W.Output.failures l.output ≡ 0 }
