use Rattle.std.proofs.Common.{option_map, subst, sym}
use Rattle.std.specs.Prelude.{OnOk}
use Rattle.serde_json.specs.Events.{SendsValue}
use Rattle.editor_replies.specs.Sending.{hover_result}
use Rattle.editor_replies.specs.Sent.{hover_view}
use Rattle.editor_replies.proofs.places.send_hover.Goals as goal

pub returns-in-None : goal.returns-in-None
returns-in-None g c =
    let w = g.S.Serializer.written in
    subst (λ h. OnOk c.unit.result (SendsValue (hover_result (option_map (hover_view c.args.form) h)) (w c.args.out.now) (w c.unit.new.self))) (sym c.in-None.is)
    c.unit.ensures

pub returns-in-Some : goal.returns-in-Some
returns-in-Some g c =
    let w = g.S.Serializer.written in
    subst (λ h. OnOk c.send_text.result (SendsValue (hover_result (option_map (hover_view c.args.form) h)) (w c.args.out.now) (w c.send_text.new.out))) (sym c.in-Some.is)
    c.send_text.ensures
