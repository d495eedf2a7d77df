use Rattle.runs.proofs.Std.{arith, ap, ◌∙◌, length}
use Rattle.runs.proofs.Common.{flattened}
use Rattle.runs.proofs.list.Runs.seq.Goals as goal

pub returns-clause-items : goal.returns-clause-items
returns-clause-items g c = ap flattened c.seq.ensures.same ∙ c.self.view_is

pub returns-clause-few : goal.returns-clause-few
returns-clause-few g c = omega (arith, ap length c.seq.ensures.same, c.seq.ensures.few, ap length c.self.view_is)

pub returns-clause-enough : goal.returns-clause-enough
returns-clause-enough g c = omega (arith, ap length c.seq.ensures.same, c.seq.ensures.enough, ap length c.self.view_is)
