use Rattle.std.proofs.Common.{◌≤◌, ◌+◌, arith, subst, sym}
use Rattle.remedies.proofs.Passed.{passed_keep}
use Rattle.remedies.specs.Changes.{passed}
use Rattle.remedies.proofs.remedy.up_to.Goals as goal

pub loop-preserved : goal.loop-preserved
loop-preserved c =
    subst (λ all. c.loop.counter + 1 ≤ passed all) (sym c.in_ok-push.ensures.items) (omega (arith, passed_keep c.loop.all.items, c.loop.invariant))
