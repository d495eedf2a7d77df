use Rattle.server.proofs.Std.{◌≡◌, List, ℕ, ℤ, w32, ap, sym, ◌∙◌, string_bytes, to_z-of_z, remove, chars, IfOk-weaker}
use Rattle.server.proofs.Common.{LanguageData, has_room, entry_view, new_document, state_view}
use Rattle.server.proofs.Holding.{holds_removed, opens_room, state_same}
use Rattle.server.proofs.state.Server.open.Goals as goal

pub returns-clause-step : goal.returns-clause-step
returns-clause-step c =
    let old = c.args.self.now in
    let uri = string_bytes c.args.uri in
    let documents = old.documents.documents in
    let made = entry_view c.in_ok-entry.entry in
    let state = new_document c.args.unit c.args.version (chars (string_bytes c.args.text)) in
    let by_version = ap (λ (v : ℤ). new_document c.args.unit v (chars c.as_str-3.result.now)) (to_z-of_z w32 c.args.version c.ranges.version) in
    let by_text = ap (λ (t : List ℕ). new_document c.args.unit c.args.version (chars t)) c.as_str-3.ensures.value in
    let same : made ≡ state = c.in_ok-entry.ensures.is ∙ (by_version ∙ by_text) in
    let spelled = ap (λ (u : List ℕ). has_room u documents) (sym c.as_str.ensures.value) in
    let removed = c.remove.ensures.documents ∙ ap (remove documents) c.as_str-2.ensures.value in
    let mid = state_same _ _ old.phase _ _ (ap (λ (l : LanguageData). l.file) c.remove.ensures.language) removed in
    IfOk-weaker c.hold.result _ _ (λ out holds. opens_room _ (state_view old) uri made state _ _ _ (holds_removed (state_view old) _ uri made _ _ _ mid holds) same
    (spelled ∙ (sym c.has_room.ensures ∙ c.if-not-has_room.false))) c.hold.ensures.step
