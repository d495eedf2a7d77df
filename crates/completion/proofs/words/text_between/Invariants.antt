use Rattle.completion.proofs.Std.{◌≡◌, drop, encode_utf8_all, slice_range, string_bytes}
use Rattle.completion.proofs.words.text_between.Given as goal

abbrev pub invariant-loop : goal.invariant-loop
invariant-loop l = record {
  ahead : l.ahead ≡ drop l.counter l.text;
  string : string_bytes l.string ≡ encode_utf8_all (slice_range l.text l.from l.counter);
}
