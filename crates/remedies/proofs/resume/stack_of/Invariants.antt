use Rattle.std.proofs.Common.{◌≡◌}
use Rattle.remedies.proofs.resume.stack_of.Given as goal

abbrev pub invariant-loop-number : goal.invariant-loop-number
invariant-loop-number l = l.stacks ≡ l.fn.stacks
