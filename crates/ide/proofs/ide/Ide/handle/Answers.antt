use Rattle.ide.proofs.Std.{◌≡◌, Some, ap, refl, subst, sym, ◌∙◌, option_map}
use Rattle.ide.proofs.Common.{asked_in, own_of, question_id, Ident}
use Rattle.std.specs.Prelude.{option_and_then}
use Rattle.std.proofs.lemmas.Result.{IfOk-weaker}
use Rattle.readings.proofs.Results.{if_ok_both}
use Rattle.rpc.specs.Ids.{id_view}
use Rattle.rpc.specs.Messages.{received_of}
use Rattle.server.specs.States.{state_view}
use Rattle.questions.specs.Asked.{Asked}
use Rattle.questions.specs.Cancels.{IsCancelled, later_view}
use Rattle.questions.specs.Own.{own_view}
use Rattle.ide.specs.Servers.{sent, state_of}
use Rattle.ide.proofs.Own.{answered, left_off}
use Rattle.ide.proofs.ide.Ide.handle.Goals as goal

pub returns : goal.returns
returns c =
    let old = state_of c.args.self.now in
    let content = c.args.content.items in
    let later = later_view c.args.later.now in
    let read = received_of c.in_ok-message.field-0.message in
    let id = id_view c.in_ok-id.id in
    let same : id ≡ id_view c.in-Some.id.now = c.in_ok-id.ensures in
    let asks : Some id ≡ option_and_then (question_id old.core.phase) read =
    ap (λ i. Some i) same ∙ ap (option_map (λ i. id_view i.now)) (sym c.in-Some.is) ∙ c.question_id.ensures
    ∙ ap (λ p. option_and_then (question_id p) read) (c.phase-phase.ensures ∙ ap (λ s. (state_view s).phase) c.server.ensures) in
    let cancelled : IsCancelled id later = subst (λ i. IsCancelled i later) (sym same) (c.is_cancelled.ensures c.if-is_cancelled.true) in
    if_ok_both c.one.result (λ s one halt. left_off old content later read id (sent s) s.stop _ c.in_ok-message.ensures.message asks cancelled one halt refl)
    c.one.ensures.messages c.one.ensures.stop

pub returns-in-Some-own : goal.returns-in-Some-own
returns-in-Some-own c =
    let old = state_of c.args.self.now in
    let content = c.args.content.items in
    let later = later_view c.args.later.now in
    let read = received_of c.in_ok-message.field-0.message in
    let own : Ident × Asked = own_view c.in-Some-own.request in
    let asks : Some own ≡ option_and_then (λ r. own_of old.core.phase r (asked_in content)) read =
    ap (option_map own_view) (sym c.in-Some-own.is) ∙ c.in_ok-message.ensures.own
    ∙ ap (λ p. option_and_then (λ r. own_of p r (asked_in content)) read) (c.phase-phase.ensures ∙ ap (λ s. (state_view s).phase) c.server.ensures) in
    IfOk-weaker c.answer.result _ _ (λ s a. answered old content later read own (sent s) s.stop (state_of c.answer.new.self)
    c.in_ok-message.ensures.message asks a) c.answer.ensures.answers
