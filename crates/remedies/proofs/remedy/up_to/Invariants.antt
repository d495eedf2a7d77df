use Rattle.std.proofs.Common.{◌≤◌}
use Rattle.remedies.specs.Changes.{passed}
use Rattle.remedies.proofs.remedy.up_to.Given as goal

abbrev pub invariant-loop : goal.invariant-loop
invariant-loop l = l.counter ≤ passed l.all.items
