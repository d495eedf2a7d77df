use Rattle.std.proofs.Common.{◌++◌, ◌≡◌}
use Rattle.mending.proofs.walk.listed.Given as goal

abbrev pub invariant-loop-look : goal.invariant-loop-look
invariant-loop-look l = l.looks.items ++ l.look-iterator ≡ l.fn.expected
