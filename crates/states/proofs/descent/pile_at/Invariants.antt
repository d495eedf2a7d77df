use Rattle.states.proofs.Std.{◌≡◌}
use Rattle.states.proofs.Descents.{IsDown}
use Rattle.states.proofs.descent.pile_at.Given as goal

abbrev pub invariant-down : goal.invariant-down
invariant-down l = (l.pile.tables ≡ l.tables) × IsDown l.tables l.store l.stack l.fn.place l.pile.states l.inside
