use Rattle.std.proofs.Common.{subst, sym, Some, option_map, string_bytes, OnOk}
use Rattle.serde_json.specs.Events.{SendsValue}
use Rattle.editor_replies.specs.Sent.{fault_view}
use Rattle.editor_replies.specs.Sending.{fault_data}
use Rattle.editor_replies.proofs.diagnostics.send_fault.Goals as goal

pub returns-in-Some : goal.returns-in-Some
returns-in-Some g c =
    let w = g.S.Serializer.written in
    let shown = fault_view c.args.fault.now in
    let old = w c.args.out.now in
    let new = w c.send_with_related.new.out in
    let result = c.send_with_related.result in
    let at_text = subst (λ t. OnOk result (SendsValue (fault_data shown (Some t)) old new)) c.as_str.ensures.value c.send_with_related.ensures in
    subst (λ r. OnOk result (SendsValue (fault_data shown (option_map (λ text. string_bytes text) r)) old new)) (sym c.in-Some.is) at_text
