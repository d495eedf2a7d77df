use Rattle.tables.proofs.Std.{◌≤◌, ◌-◌, length}
use Rattle.tables.proofs.Common.{AreMade, AreStates}
use Rattle.tables.proofs.tables.complete.Given as goal

abbrev pub invariant-loop-states : goal.invariant-loop-states
invariant-loop-states l = record { states : AreStates l.grammar l.states; made : AreMade l.grammar l.states.kernels l.made; few : length l.made.gotos ≤ 8192 }

abbrev pub decreases-loop-states : goal.decreases-loop-states
decreases-loop-states l = 8192 - length l.made.gotos
