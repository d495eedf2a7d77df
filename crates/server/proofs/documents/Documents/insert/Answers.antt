use Rattle.server.proofs.Std.{ap, refl, sym, subst, ◌∙◌, string_bytes, Some, Result, Ok, Err, OnErr, option_map, get, insert, btree_map_text_same, btree_map_updates_text}
use Rattle.server.proofs.Common.{entry_view, IsEntryOf, AreCurrent}
use Rattle.server.proofs.MapEntries.{get_held, insert_held, insert_current}
use Rattle.server.proofs.documents.Documents.insert.Goals as goal

pub returns-clause-ok : goal.returns-clause-ok
returns-clause-ok c =
    insert_held c.self.inside.by_uri.entries c.insert.new.self.entries (string_bytes c.args.uri) c.args.entry
    (btree_map_updates_text (string_bytes c.args.uri) c.self.inside.by_uri c.insert.new.self (Some c.args.entry) c.in_ok-insert.ensures.updates)
    ∙ ap (λ h. insert h.documents (string_bytes c.args.uri) (entry_view c.args.entry)) c.self.view_is

pub invariant_of-self-2 : goal.invariant_of-self-2
invariant_of-self-2 c =
    insert_current c.self.inside.language c.self.inside.by_uri.entries c.insert.new.self.entries (string_bytes c.args.uri) c.args.entry
    (btree_map_updates_text (string_bytes c.args.uri) c.self.inside.by_uri c.insert.new.self (Some c.args.entry) c.in_ok-insert.ensures.updates)
    c.self.invariant
    (subst (λ h. IsEntryOf h.language c.args.entry) (sym c.self.view_is) c.requires)

pub invariant_of-self : goal.invariant_of-self
invariant_of-self c = subst (λ entries. AreCurrent c.self.inside.language entries) (sym c.in_err-insert.ensures.err) c.self.invariant

pub returns-in_err-insert-clause-absent : goal.returns-in_err-insert-clause-absent
returns-in_err-insert-clause-absent c =
    let entries = c.self.inside.by_uri.entries in
    let uri = string_bytes c.args.uri in
    on_err c.from_residual.result (ap (λ h. get h.documents uri) (sym c.self.view_is)
    ∙ (get_held entries uri ∙ ap (option_map (entry_view)) (sym (btree_map_text_same c.args.uri uri entries refl).0 ∙ c.in_err-insert.ensures.absent)))
  where
    on_err : {T E P : Type 0} (r : Result T E) → P → OnErr r P
    on_err (Ok x) p = tt
    on_err (Err e) p = p
