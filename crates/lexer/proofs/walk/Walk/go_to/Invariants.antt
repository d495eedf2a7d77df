use Rattle.lexer.proofs.Std.{◌≡◌, length}
use Rattle.lexer.proofs.Common.{IsWalk, IsPassed}
use Rattle.lexer.proofs.walk.Walk.go_to.Given as goal

abbrev pub invariant-loop-self : goal.invariant-loop-self
invariant-loop-self l =
    let w = l.self-inside in
    record {
      walk : IsWalk w.items.now w.ahead w.place w.start;
      items : w.items.now ≡ l.fn.self.items;
      passed : IsPassed l.offset l.fn.self → IsPassed l.offset (record { items = w.items.now; place = w.place });
    }

abbrev pub decreases-loop-self : goal.decreases-loop-self
decreases-loop-self l = length l.self-inside.ahead
