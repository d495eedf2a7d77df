use Rattle.std.proofs.Common.{subst}
use Rattle.serde.specs.Event.{Logs, text}
use Rattle.serde_json.specs.Data.{array, item, no_items}
use Rattle.serde_json.specs.Events.{SendsValue}
use Rattle.editor_replies.specs.Sending.{related_data}
use Rattle.replies.proofs.Objects.{sends_object, sends_member}
use Rattle.editor_replies.proofs.diagnostics.send_with_related.Goals as goal

pub returns : goal.returns
returns g c =
    let w = g.S.Serializer.written in
    let fault = c.args.fault.now in
    let listed = subst (λ u. SendsValue (array (item (related_data u fault.range c.args.text.now) no_items)) (w c.key-3.new.self) (w c.send_related_list.new.out))
    c.as_str-2.ensures.value c.in_ok-send_related_list.ensures in
    sends_object _ _ _ c.end_map.result c.in_ok-begin_map.ensures
    (λ e. sends_member _ _ c.in_ok-key.ensures (subst (λ s. Logs (w c.key.new.self) (w c.str.new.self) (text s)) c.as_str.ensures.value c.in_ok-str.ensures)
    (sends_member _ _ c.in_ok-key-2.ensures c.in_ok-send_range.ensures
    (sends_member _ _ c.in_ok-key-3.ensures listed
    (sends_member _ _ c.in_ok-key-4.ensures c.in_ok-u64.ensures
    (sends_member _ _ c.in_ok-key-5.ensures c.in_ok-str-2.ensures e)))))
    c.end_map.ensures
