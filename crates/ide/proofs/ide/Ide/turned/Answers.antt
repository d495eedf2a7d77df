use Rattle.ide.proofs.Std.{map, ap, option_map, Option}
use Rattle.ide.proofs.Common.{message_view, state_of}
use Rattle.std.proofs.lemmas.Result.{IfOk-weaker}
use Rattle.ide.specs.Servers.{written_view}
use Rattle.ide.specs.Written.{Language}
use Rattle.ide.proofs.Looks.{sent_joined, told_only, turned}
use Rattle.ide.proofs.ide.Ide.turned.Goals as goal

pub returns-in-None : goal.returns-in-None
returns-in-None c =
    told_only c.args.unit (state_of c.args.self.now) (state_of c.remarks.new.self) (option_map written_view c.args.looked.written)
    (map message_view c.in_ok-messages.messages.items) (ap (option_map written_view) c.in-None.is)
    c.in_ok-messages.ensures.remarks c.in_ok-messages.ensures.same

pub returns-in_ok-calls-in-Some : goal.returns-in_ok-calls-in-Some
returns-in_ok-calls-in-Some c =
    let first = c.in_ok-messages.messages.items in
    let second = c.in_ok-shown-in-Some.shown.items in
    let third = c.in_ok-calls-in-Some.calls.items in
    let found : Option Language = option_map written_view c.args.looked.written in
    IfOk-weaker c.joined.result _ _ (λ messages all. turned c.args.unit (state_of c.args.self.now) (state_of c.remarks.new.self) (state_of c.turn_to.new.self)
    found (written_view c.in-Some.written) (map message_view first) (map message_view second) (map message_view third) (map message_view messages.items)
    (ap (option_map written_view) c.in-Some.is) c.in_ok-messages.ensures.remarks c.in_ok-messages.ensures.same c.in_ok-shown-in-Some.ensures c.in_ok-calls-in-Some.ensures
    (sent_joined first second third messages.items all)) c.joined.ensures
