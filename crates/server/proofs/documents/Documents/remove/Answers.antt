use Rattle.server.proofs.Std.{ap, sym, ◌∙◌, None, is_some, get, remove, btree_map_updates_text}
use Rattle.server.proofs.Common.{entry_view, entry_at}
use Rattle.server.proofs.MapEntries.{get_held, is_some_map, remove_held, remove_current}
use Rattle.server.proofs.documents.Documents.remove.Goals as goal

pub returns-clause-is : goal.returns-clause-is
returns-clause-is c =
    let entries = c.self.inside.by_uri.entries in
    let uri = c.args.uri.now in
    c.is_some.ensures ∙ (ap is_some c.remove.ensures.value
    ∙ (sym (is_some_map (entry_view) (entry_at entries uri)) ∙ ap is_some (sym (get_held entries uri) ∙ ap (λ h. get h.documents uri) c.self.view_is)))

pub returns-clause-documents : goal.returns-clause-documents
returns-clause-documents c =
    remove_held c.self.inside.by_uri.entries c.remove.new.self.entries c.args.uri.now
    (btree_map_updates_text c.args.uri.now c.self.inside.by_uri c.remove.new.self None c.remove.ensures.updates)
    ∙ ap (λ h. remove h.documents c.args.uri.now) c.self.view_is

pub invariant_of-self : goal.invariant_of-self
invariant_of-self c =
    remove_current c.self.inside.language c.self.inside.by_uri.entries c.remove.new.self.entries c.args.uri.now
    (btree_map_updates_text c.args.uri.now c.self.inside.by_uri c.remove.new.self None c.remove.ensures.updates)
    c.self.invariant
