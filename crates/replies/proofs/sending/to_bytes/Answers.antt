use Rattle.replies.proofs.Std.{text_of_value}
use Rattle.replies.proofs.Common.{reply_data, reply_view}
use Rattle.replies.proofs.Replies.{reply_is_whole}
use Rattle.replies.proofs.sending.to_bytes.Goals as goal

pub returns-in-Ok : goal.returns-in-Ok
returns-in-Ok c =
    let sent = reply_view c.args.reply.now in
    let events = c.in-Ok.ensures.events in
    text_of_value (reply_data sent) events.0 c.in-Ok.bytes.items events.1 events.2 (reply_is_whole sent)
