use Rattle.runs.proofs.Std.{ap, ◌∙◌}
use Rattle.runs.proofs.Common.{total}
use Rattle.runs.proofs.Totals.{total-sum}
use Rattle.runs.proofs.list.Runs.total.Goals as goal

pub returns : goal.returns
returns g c =
    ap (λ s. s.sum) c.total-sum.ensures ∙ total-sum g.T.Measured.measure g.met.T.Sum.Monoid.laws c.seq.result.now
    ∙ ap (total g.T.Sum.Monoid.empty g.T.Sum.Monoid.op g.T.Measured.measure) c.seq.ensures.items
