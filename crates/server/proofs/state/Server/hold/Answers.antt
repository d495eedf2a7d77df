use Rattle.server.proofs.Std.{List, ℕ, string_bytes, ap, sym, subst, insert, IfOk-weaker}
use Rattle.server.proofs.Common.{LanguageData, entry_view, sent, State, Holds, state_view}
use Rattle.server.proofs.Holding.{state_of, state_same}
use Rattle.server.proofs.state.Server.hold.Goals as goal

pub returns-clause-step : goal.returns-clause-step
returns-clause-step c =
    let old = state_view c.args.self.now in
    let uri = string_bytes c.args.uri in
    let state = entry_view c.args.entry in
    let same = state_same _ _ old.phase _ _ (ap (λ (l : LanguageData). l.file) c.in_ok-insert.ensures.language) c.in_ok-insert.ensures.ok in
    IfOk-weaker c.announce-out.result _ _
    (λ out announced.
    let here = subst (λ (u : List ℕ). Holds old u state (sent out) out.stop (state_of old.file old.phase (insert old.documents u state))) c.as_str.ensures.value announced in
    subst (λ (s : State). Holds old uri state (sent out) out.stop s) (sym same) here)
    c.announce-out.ensures
