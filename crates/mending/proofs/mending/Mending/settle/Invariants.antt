use Rattle.std.proofs.Common.{◌≡◌}
use Rattle.mending.specs.Mendings.{IsMended}
use Rattle.mending.specs.Seams.{IsWithin, staged}
use Rattle.mending.proofs.mending.Mending.settle.Given as goal

abbrev pub invariant-loop-repair : goal.invariant-loop-repair
invariant-loop-repair l = record {
  same : (l.self.copy ≡ l.fn.self.copy) × (l.self.origin ≡ l.fn.self.origin) × (l.self.store ≡ l.fn.self.store) × (l.self.parse ≡ l.fn.self.parse);
  within : IsWithin l.fn.self.copy.items l.fn.self.origin.items l.seam;
  mended : IsMended l.tables.grammar l.fn.self.origin.items l.self.repairs.items (staged l.fn.self.copy.items l.fn.self.origin.items l.seam);
}
