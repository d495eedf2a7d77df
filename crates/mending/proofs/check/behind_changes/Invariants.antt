use Rattle.std.proofs.Common.{◌≡◌, ◌+◌, ◌++◌, drop, take}
use Rattle.remedies.specs.Changes.{changed, passed}
use Rattle.mending.specs.Seams.{IsWithin}
use Rattle.mending.proofs.check.behind_changes.Given as goal

abbrev pub invariant-loop-change : goal.invariant-loop-change
invariant-loop-change l = record {
  within : IsWithin l.copy l.kinds l.seam;
  made : take l.seam.copy l.copy ++ changed (drop l.change-index l.changes) (drop l.seam.kind l.kinds)
      ≡ take l.fn.from.copy l.copy ++ changed l.changes (drop l.fn.from.kind l.kinds);
  passed : l.seam.kind + passed (drop l.change-index l.changes) ≡ l.fn.from.kind + passed l.changes;
}
