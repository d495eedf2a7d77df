use Rattle.std.proofs.Common.{◌≡◌}
use Rattle.mending.specs.Seams.{IsWithin, staged}
use Rattle.mending.proofs.check.along.Given as goal

abbrev pub invariant-loop : goal.invariant-loop
invariant-loop l = IsWithin l.copy l.kinds l.seam × (staged l.copy l.kinds l.seam ≡ staged l.copy l.kinds l.fn.from)
