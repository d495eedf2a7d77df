use Rattle.std.proofs.Common.{subst}
use Rattle.serde_json.specs.Events.{SendsValue}
use Rattle.replies.proofs.Objects.{sends_object, sends_member}
use Rattle.editor_replies.specs.Sending.{content_data}
use Rattle.editor_replies.specs.Sent.{markup_name}
use Rattle.editor_replies.proofs.places.send_text.Goals as goal

pub returns : goal.returns
returns g c =
    let w = g.S.Serializer.written in
    let old = w c.key.new.self in
    let new = w c.send_content.new.out in
    let in_form = subst (λ form. SendsValue (content_data form c.as_str.result.now) old new) c.markup_name.ensures c.in_ok-send_content.ensures in
    let content = subst (λ text. SendsValue (content_data (markup_name c.args.form) text) old new) c.as_str.ensures.value in_form in
    sends_object _ _ _ c.end_map.result c.in_ok-begin_map.ensures
    (λ e. sends_member _ _ c.in_ok-key.ensures content
    (sends_member _ _ c.in_ok-key-2.ensures c.in_ok-send_range.ensures e))
    c.end_map.ensures
