use Rattle.colours.proofs.Std.{arith}
use Rattle.colours.proofs.steps.Steps.advance_far.Goals as goal

pub returns-clause-offset : goal.returns-clause-offset
returns-clause-offset c = omega (arith, c.loop-left.invariant.offset, c.loop-left.invariant.within, c.loop-left-test.false)
