use Rattle.completion.proofs.Matches.{of_true}
use Rattle.states.proofs.Matches.{of_false}
use Rattle.completion.proofs.expected.after.Goals as goal

pub returns-then-branch-clause-after : goal.returns-then-branch-clause-after
returns-then-branch-clause-after c x h =
    (of_true _ _ c.in_ok-read_all.field-0 c.if-branch.true (c.in_ok-read_all.ensures.go_on x h), c.in_ok-read_all.ensures.after x h c.if-branch.true)

pub returns-clause-after : goal.returns-clause-after
returns-clause-after c x h = of_false _ _ c.in_ok-read_all.field-0 c.if-branch.false (c.in_ok-read_all.ensures.go_on x h)
