use Rattle.parser.proofs.Std.{◌≡◌, ◌+◌, take}
use Rattle.parser.proofs.Common.{place_of, plain_of}
use Rattle.parser.proofs.prepare.count_whole.Given as goal

abbrev pub invariant-loop-child : goal.invariant-loop-child
invariant-loop-child l = record { whole : l.whole ≡ l.child-index; left : place_of (plain_of l.store (take l.whole l.children)) + l.left ≡ l.n }
