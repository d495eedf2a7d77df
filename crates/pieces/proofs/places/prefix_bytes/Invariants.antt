use Rattle.std.proofs.Common.{◌≡◌, drop, encode_utf8_all}
use Rattle.pieces.proofs.places.prefix_bytes.Given as goal

abbrev pub invariant-loop : goal.invariant-loop
invariant-loop l = l.rest.rest.now ≡ encode_utf8_all (drop l.counter l.piece)
