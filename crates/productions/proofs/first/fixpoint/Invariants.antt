use Rattle.productions.proofs.Std.{◌≡◌, ◌+◌, length, false}
use Rattle.productions.proofs.Common.{AreTrue, AreClosed, on, unmarked}
use Rattle.productions.proofs.first.fixpoint.Given as goal

abbrev pub invariant-loop-more : goal.invariant-loop-more
invariant-loop-more l = record {
  wide : length l.marks ≡ l.productions.nonterminals;
  held : AreTrue l.productions.grammar l.look l.marks;
  closed : l.more ≡ false → AreClosed l.productions.grammar l.look l.nullable l.marks;
}

abbrev pub decreases-loop-more : goal.decreases-loop-more
decreases-loop-more l = unmarked l.marks + on l.more
