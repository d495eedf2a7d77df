use Rattle.std.proofs.Common.{◌≤◌, ◌+◌, drop}
use Rattle.remedies.specs.Changes.{passed}
use Rattle.remedies.proofs.remedy.passed_of.Given as goal

abbrev pub invariant-loop-change : goal.invariant-loop-change
invariant-loop-change l = l.count + passed (drop l.change-index l.changes) ≤ passed l.changes
