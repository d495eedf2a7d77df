use Rattle.std.proofs.Common.{◌≡◌}
use Rattle.states.proofs.stacks.Stacks.after.Given as goal

abbrev pub invariant-loop : goal.invariant-loop
invariant-loop l = l.self ≡ l.fn.self
