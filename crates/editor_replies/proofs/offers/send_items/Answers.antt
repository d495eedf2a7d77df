use Rattle.std.proofs.Common.{map, refl, subst, arith}
use Rattle.serde_json.specs.Events.{SendsValue}
use Rattle.std.proofs.lemmas.Result.{on_ok_weaker}
use Rattle.replies.proofs.SentItems.{sent_more, all_sent}
use Rattle.editor_replies.specs.Sent.{offer_view}
use Rattle.editor_replies.specs.Sending.{offer_data, offer_items}
use Rattle.editor_replies.proofs.offers.send_items.Goals as goal

pub loop-offer-preserved : goal.loop-offer-preserved
loop-offer-preserved g c = λ end rest.
    let w = g.S.Serializer.written in
    let range = c.args.range in
    let one = subst (λ o. SendsValue (offer_data range (offer_view o)) (w c.loop-offer.out) (w c.send_offer.new.out)) c.offer-item.is c.in_ok-send_offer.ensures in
    c.loop-offer.invariant end (sent_more (λ o. offer_data range (offer_view o)) (λ l. offer_items range (map offer_view l)) refl (λ x l. refl) c.args.offers.now c.loop-offer.offer-index
    c.offer-item.result (w c.loop-offer.out) (w c.send_offer.new.out) end (omega arith) one rest)

pub returns : goal.returns
returns g c =
    let w = g.S.Serializer.written in
    let range = c.args.range in
    on_ok_weaker c.end_seq.result
    (λ e. all_sent (λ o. offer_data range (offer_view o)) (λ l. offer_items range (map offer_view l)) refl (λ x l. refl) c.args.offers.now c.loop-offer.offer-index
    (w c.args.out.now) (w c.begin_seq.new.self) (w c.loop-offer.out) (w c.end_seq.new.self)
    (omega arith) c.in_ok-begin_seq.ensures e c.loop-offer.invariant)
    c.end_seq.ensures
