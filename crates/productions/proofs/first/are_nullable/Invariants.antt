use Rattle.productions.proofs.Std.{◌≡◌, drop}
use Rattle.productions.proofs.Common.{nullable_by}
use Rattle.productions.proofs.first.are_nullable.Given as goal

abbrev pub invariant-loop-s : goal.invariant-loop-s
invariant-loop-s l = nullable_by l.marks (drop l.s-index l.symbols) ≡ nullable_by l.marks l.symbols
