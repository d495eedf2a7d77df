use Rattle.std.proofs.Common.{◌≡◌}
use Rattle.remedies.specs.Changes.{passed}
use Rattle.remedies.proofs.remedy.left_out.Given as goal

abbrev pub invariant-loop : goal.invariant-loop
invariant-loop l = passed l.changes.items ≡ l.counter
