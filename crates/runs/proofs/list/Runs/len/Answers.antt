use Rattle.runs.proofs.Std.{arith, ap, ◌∙◌, ◌≤◌, length}
use Rattle.runs.proofs.Common.{most, flattened}
use Rattle.runs.proofs.Totals.{total-items}
use Rattle.runs.proofs.list.Runs.len.Goals as goal

pub returns : goal.returns
returns g c =
    let runs = c.seq.result.now in
    let few : length (flattened runs) ≤ most = omega (arith, c.seq.ensures.counted, ap length c.seq.ensures.items) in
    ap (λ s. s.items) c.total.ensures ∙ total-items g.T.Measured.measure g.met.T.Sum.Monoid.laws runs few ∙ ap length c.seq.ensures.items
