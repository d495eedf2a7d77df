use Rattle.text.proofs.Std.{◌≡◌, ◌+◌}
use Rattle.text.proofs.Common.{text_in, IsPlaced}
use Rattle.text.proofs.places.Places.advance.Given as goal

abbrev pub invariant-loop : goal.invariant-loop
invariant-loop l = record {
  placed : IsPlaced (text_in l.self-inside.pieces.now) l.self-inside.ahead l.self-inside.offset l.self-inside.unit l.self-inside.position;
  text : text_in l.self-inside.pieces.now ≡ l.fn.self.text;
  unit : l.self-inside.unit ≡ l.fn.self.unit;
  far : l.self-inside.offset ≡ l.fn.self.offset + l.counter;
}
