use Rattle.patterns.proofs.Std.{both_ways}
use Rattle.patterns.proofs.Common.{matches_empty}
use Rattle.patterns.proofs.WellMade.{well_made, empty_tested}
use Rattle.patterns.proofs.Pattern.expression.Goals as goal

pub returns-clause-well_made : goal.returns-clause-well_made
returns-clause-well_made c = well_made c.self.inside.expression c.self.invariant.0

pub returns-clause-not_empty : goal.returns-clause-not_empty
returns-clause-not_empty c = λ h. both_ways (matches_empty c.self.inside.expression) c.self.invariant.1 (empty_tested c.self.inside.expression h)
