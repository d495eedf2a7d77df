use Rattle.std.proofs.Common.{subst}
use Rattle.serde.specs.Event.{Logs, text}
use Rattle.serde_json.specs.Events.{SendsValue}
use Rattle.editor_replies.specs.Sending.{text_edit_data}
use Rattle.replies.proofs.Objects.{sends_object, sends_member}
use Rattle.editor_replies.proofs.offers.send_offer.Goals as goal

pub returns : goal.returns
returns g c =
    let w = g.S.Serializer.written in
    let edit = subst (λ t. SendsValue (text_edit_data c.args.range t) (w c.key-5.new.self) (w c.send_text_edit.new.out)) c.as_str-4.ensures.value c.in_ok-send_text_edit.ensures in
    sends_object _ _ _ c.end_map.result c.in_ok-begin_map.ensures
    (λ e. sends_member _ _ c.in_ok-key.ensures (subst (λ s. Logs (w c.key.new.self) (w c.str.new.self) (text s)) c.as_str.ensures.value c.in_ok-str.ensures)
    (sends_member _ _ c.in_ok-key-2.ensures (subst (λ s. Logs (w c.key-2.new.self) (w c.str-2.new.self) (text s)) c.as_str-2.ensures.value c.in_ok-str-2.ensures)
    (sends_member _ _ c.in_ok-key-3.ensures c.in_ok-u64.ensures
    (sends_member _ _ c.in_ok-key-4.ensures (subst (λ s. Logs (w c.key-4.new.self) (w c.str-3.new.self) (text s)) c.as_str-3.ensures.value c.in_ok-str-3.ensures)
    (sends_member _ _ c.in_ok-key-5.ensures edit e)))))
    c.end_map.ensures
