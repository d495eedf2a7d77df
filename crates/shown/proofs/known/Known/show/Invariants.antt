use Rattle.std.proofs.Common.{◌≡◌, ◌++◌, map}
use Rattle.std.specs.Vec.Iter.{into_iter_items}
use Rattle.editor_replies.specs.Sent.{message_view}
use Rattle.shown.specs.Shown.{AreShown, shown_data}
use Rattle.replies.specs.Replies.{reply_view}
use Rattle.shown.proofs.known.Known.show.Given as goal

abbrev pub invariant-loop-reply : goal.invariant-loop-reply
invariant-loop-reply l = record {
  shown : AreShown (shown_data l.fn.self.shown) (map reply_view l.yielded) (map message_view l.messages.items);
  all : l.yielded ++ into_iter_items l.reply-iterator ≡ l.fn.replies.items;
}
