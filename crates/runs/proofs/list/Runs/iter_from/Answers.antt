use Rattle.std.proofs.Common.{arith, rules}
use Rattle.runs.proofs.list.Runs.iter_from.Goals as goal

pub overflow_add-cut : goal.overflow_add-cut
overflow_add-cut g c = omega (arith, c.cut_at-cut.ensures.within, c.seq-runs.ensures.few, c.seq-runs.ensures.counted)

pub returns : goal.returns
returns g c = search rules
