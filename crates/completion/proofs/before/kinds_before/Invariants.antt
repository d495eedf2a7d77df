use Rattle.completion.proofs.Std.{◌≡◌, drop, take}
use Rattle.completion.proofs.Common.{significant_kinds}
use Rattle.completion.proofs.before.kinds_before.Given as goal

abbrev pub invariant-loop : goal.invariant-loop
invariant-loop l = record {
  ahead : l.ahead ≡ drop l.counter l.tokens.items;
  kinds : l.kinds.items ≡ significant_kinds (take l.counter l.tokens.items);
}
