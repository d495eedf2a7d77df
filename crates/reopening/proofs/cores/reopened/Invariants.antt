use Rattle.std.proofs.Common.{map}
use Rattle.replies.specs.Replies.{reply_view}
use Rattle.server.specs.States.{state_view}
use Rattle.reopening.specs.Reopening.{Reopens}
use Rattle.reopening.proofs.cores.reopened.Given as goal

abbrev pub invariant-loop-uri : goal.invariant-loop-uri
invariant-loop-uri l = record {
  opened : Reopens (state_view l.fn.old) l.fn.unit l.fn.language.file (map reply_view l.replies.items) (state_view l.server);
}
