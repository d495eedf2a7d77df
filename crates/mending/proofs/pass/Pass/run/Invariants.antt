use Rattle.std.proofs.Common.{◌≡◌}
use Rattle.mending.proofs.pass.Pass.run.Given as goal

abbrev pub invariant-loop : goal.invariant-loop
invariant-loop l = (l.self.tables ≡ l.fn.self.tables) × (l.self.before ≡ l.fn.self.before)
