use Rattle.std.proofs.Common.{◌≡◌, ◌++◌, ◌∷◌, [], map, ap, sym, subst, ◌∙◌, append_assoc, arith}
use Rattle.std.proofs.lemmas.Grind.{common_steps}
use Rattle.std.proofs.lemmas.List.{map-append}
use Rattle.std.specs.Vec.Iter.{into_iter_items}
use Rattle.editor_replies.specs.Sent.{message_view}
use Rattle.shown.specs.Shown.{AreShown, shown_data}
use Rattle.replies.specs.Replies.{reply_view}
use Rattle.shown.proofs.ShownAnswers.{one_more_shown}
use Rattle.shown.proofs.known.Known.show.Goals as goal

pub returns : goal.returns
returns c =
    let all : c.loop-reply.yielded ≡ c.args.replies.items = grind (arith, common_steps) in
    subst (λ replies. AreShown (shown_data c.args.self.now.shown) (map reply_view replies) (map message_view c.loop-reply.messages.items)) all c.loop-reply.invariant.shown

pub loop-reply-preserved : goal.loop-reply-preserved
loop-reply-preserved c =
    let shown = shown_data c.args.self.now.shown in
    let done = c.loop-reply.yielded in
    let reply = c.in-Some.reply in
    let old = map message_view c.loop-reply.messages.items in
    let new = map message_view c.push_shown.new.messages.items in
    let one = one_more_shown shown (map reply_view done) old new (reply_view reply) c.loop-reply.invariant.shown c.in_ok-push_shown.ensures in
    record {
      shown = subst (λ answers. AreShown shown answers new) (sym (map-append reply_view done (reply ∷ []))) one;
      all = append_assoc done (reply ∷ []) (into_iter_items c.next.new.self) ∙ ap (λ l. done ++ l) (sym c.in-Some.ensures.steps.0) ∙ c.loop-reply.invariant.all;
    }
