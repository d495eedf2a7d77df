use Rattle.ide.proofs.Std.{ap, sym, subst, ◌∙◌, map, option_map}
use Rattle.ide.proofs.Common.{message_view, state_of}
use Rattle.std.specs.Prelude.{IfOk}
use Rattle.server.specs.States.{state_view}
use Rattle.ide.specs.Servers.{written_view}
use Rattle.ide.specs.Written.{AfterLook}
use Rattle.ide.proofs.ide.Ide.look.Goals as goal

pub returns-in-Ready : goal.returns-in-Ready
returns-in-Ready c =
    let old = state_of c.args.self.now in
    let found = option_map written_view c.args.looked.written in
    let new = state_of c.turned.new.self in
    let phase = c.phase.ensures ∙ ap (λ s. (state_view s).phase) c.server.ensures in
    subst (λ p. IfOk c.turned.result (λ messages. AfterLook p old found (map message_view messages.items) new)) (sym c.in-Ready.is ∙ phase) c.turned.ensures
