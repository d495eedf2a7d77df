use Rattle.server.proofs.Std.{sym, ap, subst, ◌∙◌, option_map, get}
use Rattle.server.proofs.Common.{entry_view, IsEntryOf}
use Rattle.server.proofs.MapEntries.{get_held, map_twice, found_current}
use Rattle.server.proofs.documents.Documents.get.Goals as goal

pub returns-clause-is : goal.returns-clause-is
returns-clause-is c =
    map_twice (λ d. d.now) (entry_view) c.get.result ∙ ap (option_map (entry_view)) c.get.ensures.value
    ∙ (sym (get_held c.self.inside.by_uri.entries c.args.uri.now) ∙ ap (λ h. get h.documents c.args.uri.now) c.self.view_is)

pub returns-clause-current : goal.returns-clause-current
returns-clause-current c =
    found_current c.args.self.now.language (λ d. d.now) c.get.result _ c.get.ensures.value (λ d found. subst (λ h. IsEntryOf h.language d) c.self.view_is (c.self.invariant c.args.uri.now d found))
