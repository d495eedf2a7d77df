use Rattle.serde_json.proofs.FreeTexts.{text_of_value}
use Rattle.editor_replies.proofs.Wholes.{message_is_whole}
use Rattle.editor_replies.specs.Sent.{message_view}
use Rattle.editor_replies.specs.Sending.{message_data}
use Rattle.editor_replies.proofs.sending.to_bytes.Goals as goal

pub returns-in-Ok : goal.returns-in-Ok
returns-in-Ok c =
    let message = message_view c.args.message.now in
    let events = c.in-Ok.ensures.events in
    text_of_value (message_data message) events.0 c.in-Ok.bytes.items events.1 events.2 (message_is_whole message)
