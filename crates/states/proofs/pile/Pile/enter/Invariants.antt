use Rattle.states.proofs.Std.{◌≡◌}
use Rattle.states.proofs.Descents.{ArePassed}
use Rattle.states.proofs.pile.Pile.enter.Given as goal

abbrev pub invariant-loop-child : goal.invariant-loop-child
invariant-loop-child l =
    (l.self.tables ≡ l.fn.self.tables)
    × ArePassed l.fn.self.tables l.store l.fn.children l.fn.place l.fn.self.states l.self.states l.left l.child-iterator
