use Rattle.std.proofs.Common.{subst, sym}
use Rattle.std.specs.Prelude.{OnOk}
use Rattle.serde_json.specs.Events.{SendsValue}
use Rattle.editor_replies.specs.Sending.{outcome_data}
use Rattle.editor_replies.proofs.sending.send_outcome.Goals as goal

pub returns-in-Capabilities : goal.returns-in-Capabilities
returns-in-Capabilities g c =
    let w = g.S.Serializer.written in
    subst (λ o. OnOk c.send_initialized.result (SendsValue (outcome_data o) (w c.args.out.now) (w c.send_initialized.new.out))) (sym c.in-Capabilities.is)
    c.send_initialized.ensures

pub returns-in-Offers : goal.returns-in-Offers
returns-in-Offers g c =
    let w = g.S.Serializer.written in
    subst (λ o. OnOk c.send_offers.result (SendsValue (outcome_data o) (w c.args.out.now) (w c.send_offers.new.out))) (sym c.in-Offers.is)
    c.send_offers.ensures

pub returns-in-Outline : goal.returns-in-Outline
returns-in-Outline g c =
    let w = g.S.Serializer.written in
    subst (λ o. OnOk c.send_outline.result (SendsValue (outcome_data o) (w c.args.out.now) (w c.send_outline.new.out))) (sym c.in-Outline.is)
    c.send_outline.ensures

pub returns-in-Hover : goal.returns-in-Hover
returns-in-Hover g c =
    let w = g.S.Serializer.written in
    subst (λ o. OnOk c.send_hover.result (SendsValue (outcome_data o) (w c.args.out.now) (w c.send_hover.new.out))) (sym c.in-Hover.is)
    c.send_hover.ensures

pub returns-in-Brackets : goal.returns-in-Brackets
returns-in-Brackets g c =
    let w = g.S.Serializer.written in
    subst (λ o. OnOk c.send_brackets.result (SendsValue (outcome_data o) (w c.args.out.now) (w c.send_brackets.new.out))) (sym c.in-Brackets.is)
    c.send_brackets.ensures
