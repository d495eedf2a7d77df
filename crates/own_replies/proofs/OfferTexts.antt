-- The texts of offers, whatever else is said of them.
use Rattle.std.proofs.Common.{◌≡◌, List, [], ◌∷◌, map, string_bytes, refl, ap, sym, ◌∙◌}
use Rattle.completion.specs.Offers.{offer}
use Rattle.completion.specs.declared.offers.Offer.{Offer}
use Rattle.editor_replies.specs.Sent.{offer_view}
use Rattle.editor_replies.specs.declared.sent.Offered.{Offered}

of_shown : (found : List Offered) → map (λ o. o.text) (map offer_view found) ≡ map (λ o. string_bytes o.text) found
of_shown [] = refl
of_shown (o ∷ found) = ap (λ l. string_bytes o.text ∷ l) (of_shown found)

of_found : (found : List Offer) → map (λ r. r.1) (map offer found) ≡ map (λ o. string_bytes o.text) found
of_found [] = refl
of_found (o ∷ found) = ap (λ l. string_bytes o.text ∷ l) (of_found found)

pub same_texts : (shown : List Offered) (found : List Offer) → map (λ o. string_bytes o.text) shown ≡ map (λ o. string_bytes o.text) found
    → map (λ o. o.text) (map offer_view shown) ≡ map (λ r. r.1) (map offer found)
same_texts shown found e = of_shown shown ∙ (e ∙ sym (of_found found))
