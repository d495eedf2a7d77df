use Rattle.ide.proofs.Std.{map}
use Rattle.ide.proofs.Common.{message_view}
use Rattle.ide.specs.Written.{AreRemarks}
use Rattle.ide.proofs.ide.all_sent.Given as goal

abbrev pub invariant-loop-notice : goal.invariant-loop-notice
invariant-loop-notice l = record { remarks : AreRemarks (map message_view l.messages.items) }
