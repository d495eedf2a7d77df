use Rattle.completion.proofs.Std.{◌++◌, ◌≡◌, drop, slice_range}
use Rattle.completion.proofs.places.push_between.Given as goal

abbrev pub invariant-loop : goal.invariant-loop
invariant-loop l = record {
  ahead : l.ahead ≡ drop l.counter l.text;
  characters : l.characters.items ≡ l.initial.characters.items ++ slice_range l.text l.from l.counter;
}
