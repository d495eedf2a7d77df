use Rattle.server.proofs.Std.{◌≡◌, ℤ, w32, map, ap, sym, subst, ◌∙◌, string_bytes, Some, IfSome, option_map, to_z-of_z, get, insert, IfOk-weaker}
use Rattle.server.proofs.Common.{LanguageData, change_view, is_open, is_lost, Becomes, entry_view, state_view, open_document}
use Rattle.rpc.specs.Loss.TheVariants.{Memory}
use Rattle.server.proofs.Holding.{changes_open, state_same}
use Rattle.server.proofs.state.Server.change.Goals as goal

pub returns-clause-step : goal.returns-clause-step
returns-clause-step c =
    let old = c.args.self.now in
    let uri = string_bytes c.args.uri in
    let documents = old.documents.documents in
    let doc = c.in-Some-Open-take.doc in
    let entry = c.apply_changes-entry.result in
    let spelled : c.as_str-2.result.now ≡ uri = c.as_str-2.ensures.value in
    let taken = c.in-Some-Open-take.is ∙ ap (λ e. Some e) c.in-Some-Open-take.field-0-is in
    let held : get documents uri ≡ Some (is_open (open_document doc)) = ap (get documents) (sym spelled) ∙ (sym c.take.ensures.is ∙ ap (option_map (entry_view)) taken) in
    let put = subst (λ t. IfSome t (λ _. c.take.new.self.documents ≡ insert documents c.as_str-2.result.now (is_lost Memory))) taken c.take.ensures.documents in
    let mid = state_same _ _ old.phase _ _ (ap (λ (l : LanguageData). l.file) c.take.ensures.language) (put ∙ ap (λ u. insert documents u (is_lost Memory)) spelled) in
    let d = open_document doc in
    let changes = map change_view c.args.changes.now in
    let by_language = subst (λ (v : ℤ). Becomes (c.language.result.now.file) v d changes (entry_view entry)) (to_z-of_z w32 c.args.version c.ranges.version) c.apply_changes-entry.ensures.becomes in
    let becomes : Becomes old.documents.language.file c.args.version d changes (entry_view entry) = subst (λ l. Becomes (l.file) c.args.version d changes (entry_view entry))
    (c.language.ensures ∙ c.take.ensures.language) by_language in
    IfOk-weaker c.hold.result _ _ (λ out holds. changes_open (state_view old) _ uri (is_lost Memory) d c.args.version changes (entry_view entry) _ _ _ held mid becomes holds) c.hold.ensures.step
