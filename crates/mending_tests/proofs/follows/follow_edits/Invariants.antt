use Rattle.std.specs.Prelude.{List}
use Rattle.definitions.specs.declared.Kind.{Kind}
use Rattle.mending.specs.Mendings.{IsMendingOf}
use Rattle.mending_tests.proofs.follows.follow_edits.Given as goal

abbrev pub invariant-loop-3 : goal.invariant-loop-3
invariant-loop-3 g l = (kinds : List Kind) × IsMendingOf l.tried.tables.now kinds l.mending
