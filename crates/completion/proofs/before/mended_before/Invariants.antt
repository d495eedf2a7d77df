use Rattle.std.proofs.Common.{◌≡◌, drop}
use Rattle.completion.specs.Mended.{mended_before}
use Rattle.completion.proofs.before.mended_before.Given as goal

abbrev pub invariant-loop-repair : goal.invariant-loop-repair
invariant-loop-repair l = mended_before (drop l.repair-index l.repairs) l.mended.items ≡ mended_before l.repairs l.initial.mended.items
