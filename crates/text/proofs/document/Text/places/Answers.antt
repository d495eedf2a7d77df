use Rattle.text.proofs.Std.{arith, ap, length}
use Rattle.text.proofs.Common.{text_in}
use Rattle.text.proofs.Sizes.{length_le}
use Rattle.text.proofs.document.Text.places.Goals as goal

pub new-requires : goal.new-requires
new-requires c = omega (arith, length_le c.self.inside.pieces c.self.invariant, ap (λ ps. length (text_in ps)) c.seq.ensures.same)
