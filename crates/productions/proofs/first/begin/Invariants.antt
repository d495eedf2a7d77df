use Rattle.productions.proofs.Std.{◌≡◌, drop}
use Rattle.productions.proofs.Common.{begin_by}
use Rattle.productions.proofs.first.begin.Given as goal

abbrev pub invariant-loop-s : goal.invariant-loop-s
invariant-loop-s l = begin_by l.a l.nullable l.marks (drop l.s-index l.symbols) ≡ begin_by l.a l.nullable l.marks l.symbols
