use Rattle.ide.proofs.Std.{refl, map, ◌∙◌}
use Rattle.ide.proofs.Common.{message_view, state_of, IdeState}
use Rattle.replies.specs.Replies.{reply_view}
use Rattle.rpc.specs.Messages.{received_of}
use Rattle.server.specs.States.{state_view}
use Rattle.ide.proofs.Own.{core_stepped}
use Rattle.ide.proofs.ide.Ide.step.Goals as goal

pub returns : goal.returns
returns c =
    let old = state_of c.args.self.now in
    let mid : IdeState = record { core = state_view c.handle.new.self; shown = old.shown; number = old.number; told = old.told } in
    core_stepped (received_of c.args.message) old mid (state_of c.keep_copy_of.new.self) (map reply_view c.in_ok-out.out.replies.items)
    (map message_view c.in_ok-messages.messages.items) c.in_ok-out.out.stop c.in_ok-out.ensures.step refl (c.keep_copy_of.ensures ∙ c.note_opened.ensures) c.in_ok-messages.ensures
