use Rattle.std.proofs.Common.{subst}
use Rattle.serde_json.specs.Data.{array}
use Rattle.serde_json.specs.Events.{SendsValue}
use Rattle.editor_replies.specs.Sending.{number_items}
use Rattle.replies.proofs.Objects.{sends_object, sends_member}
use Rattle.editor_replies.proofs.numbers.send_change.Goals as goal

pub returns : goal.returns
returns g c =
    let w = g.S.Serializer.written in
    let numbers = subst (λ n. SendsValue (array (number_items n)) (w c.key.new.self) (w c.send_numbers.new.out)) c.deref.ensures.value c.in_ok-send_numbers.ensures in
    sends_object _ _ _ c.end_map.result c.in_ok-begin_map.ensures
    (λ e. sends_member _ _ c.in_ok-key.ensures numbers
    (sends_member _ _ c.in_ok-key-2.ensures c.in_ok-u64.ensures
    (sends_member _ _ c.in_ok-key-3.ensures c.in_ok-u64-2.ensures e)))
    c.end_map.ensures
