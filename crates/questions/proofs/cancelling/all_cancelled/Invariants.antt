use Rattle.std.proofs.Common.{◌≡◌, take}
use Rattle.frames.specs.Contents.{contents}
use Rattle.questions.specs.Cancels.{cancels, later_view}
use Rattle.questions.proofs.cancelling.all_cancelled.Given as goal

abbrev pub invariant-loop-frame : goal.invariant-loop-frame
invariant-loop-frame l = record { ids : later_view l.ids.items ≡ cancels (contents (take l.frame-index l.frames)) }
