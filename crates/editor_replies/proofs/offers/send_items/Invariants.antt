use Rattle.std.proofs.Common.{drop, map}
use Rattle.serde.specs.Event.{Log}
use Rattle.serde_json.specs.Events.{SendsItems}
use Rattle.editor_replies.specs.Sent.{offer_view}
use Rattle.editor_replies.specs.Sending.{offer_items}
use Rattle.editor_replies.proofs.offers.send_items.Given as goal

-- whatever sends what is left sends all
abbrev pub invariant-loop-offer : goal.invariant-loop-offer
invariant-loop-offer g l =
    (end : Log) → SendsItems (offer_items l.range (map offer_view (drop l.offer-index l.offers))) (g.S.Serializer.written l.out) end
    → SendsItems (offer_items l.range (map offer_view l.offers)) (g.S.Serializer.written l.initial.out) end
