use Rattle.std.specs.Prelude.{Bool, List}
use Rattle.views.proofs.LinesOfTokens.{AreMarked, IsLined}
use Rattle.views.proofs.foldable.lines_of.Given as goal

abbrev pub invariant-loop-token : goal.invariant-loop-token
invariant-loop-token l = (skips : List Bool) → AreMarked skips l.tokens.items → IsLined skips l.text l.tokens.items l.lines.items l.places l.token-iterator
