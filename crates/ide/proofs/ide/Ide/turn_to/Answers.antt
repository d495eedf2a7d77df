use Rattle.ide.proofs.Std.{◌≡◌, refl, subst, sym, map, None, rules}
use Rattle.ide.proofs.Common.{message_view, state_of}
use Rattle.std.proofs.lemmas.Result.{IfOk-weaker}
use Rattle.replies.specs.Replies.{reply_view}
use Rattle.server.specs.States.{state_view}
use Rattle.ide.specs.Servers.{written_view}
use Rattle.own_replies.specs.Servers.{last_of, number_of}
use Rattle.own_replies.specs.States.{IdeState}
use Rattle.reopening.specs.Reopening.{Reopens}
use Rattle.ide.proofs.Looks.{replaced}
use Rattle.ide.proofs.ide.Ide.turn_to.Goals as goal

pub returns : goal.returns
returns c =
    let old = state_of c.args.self.now in
    let files = written_view c.args.written in
    let server = c.in_ok-server.field-0.server in
    let core = state_view c.replace.new.self in
    let answers = map reply_view c.in_ok-server.field-0.replies.items in
    let there : Reopens (state_view c.server.result.now) c.args.unit files.0 answers (state_view server) = search rules in
    let here : Reopens old.core c.args.unit files.0 answers (state_view server) = subst (λ s. Reopens (state_view s) c.args.unit files.0 answers (state_view server)) c.server.ensures there in
    let reopens : Reopens old.core c.args.unit files.0 answers core = subst (λ s. Reopens old.core c.args.unit files.0 answers (state_view s)) (sym c.replace.ensures) here in
    let results = c.forget.new.self in
    let new : IdeState = record { core = core; shown = files.1; number = number_of results; told = last_of results } in
    let same : new ≡ record { core = core; shown = files.1; number = old.number; told = None } = rw (c.forget.ensures.number, c.forget.ensures.last) refl in
    IfOk-weaker c.show.result _ _ (λ messages are. replaced c.args.unit old new files answers (map message_view messages.items) reopens are same) c.show.ensures
