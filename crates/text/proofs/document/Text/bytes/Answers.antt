use Rattle.text.proofs.Std.{arith, ap, ◌∙◌}
use Rattle.text.proofs.Common.{text_in, units-bytes}
use Rattle.text.proofs.Sizes.{size, bytes_le}
use Rattle.text.proofs.document.Text.bytes.Goals as goal

pub returns-clause-count : goal.returns-clause-count
returns-clause-count c = c.bytes.ensures ∙ units-bytes (text_in c.self.inside.pieces) ∙ ap size c.self.view_is

pub returns-clause-few : goal.returns-clause-few
returns-clause-few c = omega (arith, c.bytes.ensures, bytes_le c.self.inside.pieces c.self.invariant)
