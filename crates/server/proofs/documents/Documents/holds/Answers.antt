use Rattle.server.proofs.Std.{sym, ap, ◌∙◌, is_some, get}
use Rattle.server.proofs.Common.{entry_view, entry_at}
use Rattle.server.proofs.MapEntries.{get_held, is_some_map}
use Rattle.server.proofs.documents.Documents.holds.Goals as goal

pub returns : goal.returns
returns c =
    let entries = c.self.inside.by_uri.entries in
    let uri = c.args.uri.now in
    c.contains_key.ensures ∙ (sym (is_some_map (entry_view) (entry_at entries uri)) ∙ ap is_some (sym (get_held entries uri) ∙ ap (λ h. get h.documents uri) c.self.view_is))
