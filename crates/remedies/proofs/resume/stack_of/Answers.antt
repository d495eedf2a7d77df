use Rattle.std.proofs.Common.{◌∙◌, arith, get_or, subst, sym}
use Rattle.states.specs.Stacks.{IsReached}
use Rattle.remedies.proofs.resume.stack_of.Goals as goal

pub push-requires-in-loop-number : goal.push-requires-in-loop-number
push-requires-in-loop-number c =
    subst (λ t. IsReached t (get_or c.states-states.result.now c.loop-number.number 0)) (sym (c.loop-number.invariant ∙ c.requires))
    (c.states-states.ensures.reached c.loop-number.number 0 (omega (arith, c.loop-number-test.true)))
