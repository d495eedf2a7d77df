use Rattle.std.proofs.Common.{◌+◌, ◌∙◌, ap}
use Rattle.remedies.proofs.Passed.{passed_push}
use Rattle.remedies.specs.Changes.{passed}
use Rattle.remedies.proofs.remedy.left_out.Goals as goal

pub loop-preserved : goal.loop-preserved
loop-preserved c = ap passed c.in_ok-push.ensures.items ∙ passed_push c.loop.changes.items ∙ ap (λ n. n + 1) c.loop.invariant
