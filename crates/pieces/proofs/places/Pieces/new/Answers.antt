use Rattle.pieces.proofs.Std.{arith, ap}
use Rattle.pieces.proofs.Common.{units, Utf8, text_in}
use Rattle.pieces.proofs.Joins.{units-nil}
use Rattle.pieces.proofs.places.Pieces.new.Goals as goal

pub invariant_of-result : goal.invariant_of-result
invariant_of-result c = omega (arith, ap (λ ps. units Utf8 (text_in ps)) c.new.ensures, units-nil Utf8)
