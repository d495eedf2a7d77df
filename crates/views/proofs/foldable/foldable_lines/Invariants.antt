use Rattle.std.specs.Prelude.{map}
use Rattle.views.proofs.FoldSteps.{work}
use Rattle.views.proofs.WalkGathersFolds.{ahead, IsWalking}
use Rattle.views.proofs.foldable.foldable_lines.Given as goal

abbrev pub invariant-loop-children : goal.invariant-loop-children
invariant-loop-children l = IsWalking l.grammar l.lines l.store l.roots l.open.items l.pairs.items

abbrev pub decreases-loop-children : goal.decreases-loop-children
decreases-loop-children l = work (map (ahead l.store) l.open.items)
