use Rattle.server.proofs.Std.{◌≡◌, sym, ap, ◌∙◌, ◌||◌, nat_lt, false, contains_key, len}
use Rattle.server.proofs.MapEntries.{len_held}
use Rattle.server.proofs.documents.Documents.has_room.Goals as goal

pub returns-else-holds : goal.returns-else-holds
returns-else-holds c =
    let absent : contains_key c.args.self.now.documents c.args.uri.now ≡ false = sym c.holds.ensures ∙ c.if-holds.false in
    let many : len c.args.self.now.documents ≡ c.len.result = ap (λ h. len h.documents) (sym c.self.view_is) ∙ (len_held c.self.inside.by_uri.entries c.len.ensures.ordered ∙ sym c.len.ensures.len) in
    sym (ap (λ b. b || nat_lt (len c.args.self.now.documents) 64) absent ∙ ap (λ n. nat_lt n 64) many)
