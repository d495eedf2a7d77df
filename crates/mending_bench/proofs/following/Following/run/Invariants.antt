use Rattle.std.specs.Prelude.{List}
use Rattle.definitions.specs.declared.Kind.{Kind}
use Rattle.mending.specs.Mendings.{IsMendingOf}
use Rattle.mending_bench.proofs.following.Following.run.Given as goal

abbrev pub invariant-loop : goal.invariant-loop
invariant-loop l = (kinds : List Kind) × IsMendingOf l.self.planter.tables.now kinds l.mending
