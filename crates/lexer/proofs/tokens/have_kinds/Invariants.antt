use Rattle.lexer.proofs.Std.{◌≡◌, ◌-◌, drop, slice_range, take}
use Rattle.lexer.proofs.Common.{same_kinds, significant_kinds}
use Rattle.lexer.proofs.tokens.have_kinds.Given as goal

abbrev pub invariant-loop : goal.invariant-loop
invariant-loop l = record {
  ahead : l.ahead ≡ drop l.counter l.items;
  left : same_kinds (significant_kinds (take (l.to - l.counter) l.ahead)) l.left ≡ same_kinds (significant_kinds (slice_range l.items l.from l.to)) l.kinds;
}
