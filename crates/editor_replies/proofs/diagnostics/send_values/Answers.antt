use Rattle.std.proofs.Common.{map, refl, subst, sym, arith}
use Rattle.std.proofs.lemmas.List.{drop_all}
use Rattle.serde_json.specs.Events.{SendsItems, SendsValue}
use Rattle.serde_json.specs.View.{view}
use Rattle.replies.proofs.SentItems.{sent_more}
use Rattle.editor_replies.specs.Sending.{value_items, without_fractions}
use Rattle.editor_replies.proofs.diagnostics.send_values.Goals as goal

pub loop-value-preserved : goal.loop-value-preserved
loop-value-preserved g c = λ end rest.
    let w = g.S.Serializer.written in
    let one = subst (λ v. SendsValue (without_fractions (view v)) (w c.loop-value.out) (w c.send_value.new.out)) c.value-item.is c.in_ok-send_value.ensures in
    c.loop-value.invariant end (sent_more (λ v. without_fractions (view v)) (λ l. value_items (map view l)) refl (λ x l. refl) c.args.values.now c.loop-value.value-index
    c.value-item.result (w c.loop-value.out) (w c.send_value.new.out) end (omega arith) one rest)

pub returns : goal.returns
returns g c = λ end ended.
    let w = g.S.Serializer.written in
    c.loop-value.invariant end
    (subst (λ l. SendsItems (value_items (map view l)) (w c.loop-value.out) end) (sym (drop_all c.loop-value.value-index c.args.values.now (omega arith))) ended)
