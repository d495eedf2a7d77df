use Rattle.std.proofs.Common.{rules, ◌≡◌, map, string_bytes, refl}
use Rattle.completion.specs.Offers.{AreOffers, offer}
use Rattle.definitions.specs.Text.{offset, position}
use Rattle.docs.specs.Docs.{open_document}
use Rattle.rpc.specs.Ids.{id_view}
use Rattle.editor_replies.specs.Sent.{offer_view, offers}
use Rattle.own_replies.specs.Servers.{replying_state}
use Rattle.own_replies.specs.Replies.{between}
use Rattle.own_replies.proofs.OfferTexts.{same_texts}
use Rattle.own_replies.proofs.replying.Replying.offers.Goals as goal

pub returns : goal.returns
returns c =
    let self = c.args.self.now in
    let d = open_document c.args.doc.now in
    let at = offset d.unit d.text c.args.position in
    let start = c.in_ok-start.start in
    let found = c.in_ok-start.offers.items in
    let items = c.in_ok-found.found.items in
    let repairs = c.repairs-repairs.result.now in
    let are : AreOffers (replying_state self).core.file self.known.now.shown.texts.items repairs d.text at start (map offer found) = search rules in
    let texts : map (λ o. string_bytes o.text) items ≡ map (λ o. string_bytes o.text) found = search rules in
    let first : c.position.result ≡ position d.unit d.text start = search rules in
    let last : c.position-2.result ≡ position d.unit d.text at = search rules in
    let message : offers (id_view c.args.id) (record { start = c.position.result; end = c.position-2.result }) (map offer_view items)
    ≡ offers (id_view c.args.id) (between d start at) (map offer_view items) = rw (first, last) refl in
    (start, map offer found, map offer_view items, repairs, c.repairs-repairs.ensures, are, same_texts items found texts, message)
