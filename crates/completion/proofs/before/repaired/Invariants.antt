use Rattle.std.proofs.Common.{◌≡◌, ◌≤◌, ◌++◌, drop, length, take}
use Rattle.completion.specs.Mended.{changed_before}
use Rattle.completion.proofs.before.repaired.Given as goal

abbrev pub invariant-loop-change : goal.invariant-loop-change
invariant-loop-change l = record {
  within : l.made.passed ≤ length l.kinds;
  made : l.made.kinds.items ++ changed_before (drop l.change-index l.change-items) (drop l.made.passed l.kinds)
      ≡ take l.at l.kinds ++ changed_before l.repair.changes.items (drop l.at l.kinds);
}
