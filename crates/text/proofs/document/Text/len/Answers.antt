use Rattle.std.proofs.Common.{arith, rules}
use Rattle.text.proofs.Sizes.{length_le}
use Rattle.text.proofs.document.Text.len.Goals as goal

pub returns-clause-few : goal.returns-clause-few
returns-clause-few c = omega (arith, c.characters.ensures, length_le c.self.inside.pieces c.self.invariant)

pub returns-clause-count : goal.returns-clause-count
returns-clause-count c = search rules
