use Rattle.server.proofs.Std.{◌≡◌, ap, sym, ◌∙◌, string_bytes, None, get}
use Rattle.server.proofs.Common.{LanguageData, state_view, none_is, removed_none, if_ok_both}
use Rattle.server.proofs.Holding.{closes_none, state_same}
use Rattle.server.proofs.state.Server.close.Goals as goal

pub returns-then-not-remove-clause-step : goal.returns-then-not-remove-clause-step
returns-then-not-remove-clause-step c =
    let old = c.args.self.now in
    let uri = string_bytes c.args.uri in
    let none : get old.documents.documents c.as_str.result.now ≡ None = none_is _ (sym c.remove.ensures.is ∙ c.if-not-remove.true) in
    let here : get old.documents.documents uri ≡ None = ap (get old.documents.documents) (sym c.as_str.ensures.value) ∙ none in
    let same = state_same _ _ old.phase _ _ (ap (λ (l : LanguageData). l.file) c.remove.ensures.language)
    (c.remove.ensures.documents ∙ removed_none old.documents.documents c.as_str.result.now none) in
    if_ok_both c.one_log.result
    (λ out replies stop. closes_none (state_view old) uri _ _ _ here replies stop same)
    c.one_log.ensures.replies
    c.one_log.ensures.stop
