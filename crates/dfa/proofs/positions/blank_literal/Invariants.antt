use Rattle.dfa.proofs.Std.{◌≡◌, ◌++◌}
use Rattle.dfa.proofs.Common.{unmarked}
use Rattle.dfa.proofs.positions.blank_literal.Given as goal

abbrev pub invariant-loop-c : goal.invariant-loop-c
invariant-loop-c l = l.out.items ≡ l.fn.out.items ++ unmarked l._c-index
