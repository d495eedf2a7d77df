use Rattle.std.proofs.Common.{◌≡◌, map, string_bytes, take}
use Rattle.own_replies.proofs.offered.all_offered.Given as goal

-- the texts of the first offers are there
abbrev pub invariant-loop-offer : goal.invariant-loop-offer
invariant-loop-offer l = map (λ offer. string_bytes offer.text) l.shown.items ≡ map (λ offer. string_bytes offer.text) (take l.offer-index l.offers)
