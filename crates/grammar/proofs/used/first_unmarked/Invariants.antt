use Rattle.grammar.proofs.Std.{◌≡◌, true, take}
use Rattle.grammar.proofs.Common.{are_marked}
use Rattle.grammar.proofs.used.first_unmarked.Given as goal

abbrev pub invariant-loop-symbol : goal.invariant-loop-symbol
invariant-loop-symbol l = are_marked l.marks (take l.symbol-index l.symbols) ≡ true
