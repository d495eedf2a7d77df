use Rattle.runs.proofs.Std.{ap, sym, ◌∙◌, take}
use Rattle.runs.proofs.Common.{total, total-append, flattened}
use Rattle.runs.proofs.list.Runs.total_before.Goals as goal

pub returns : goal.returns
returns g c =
    let cut = c.cut_with_sum-sum.result.0 in
    let op = g.T.Sum.Monoid.op in
    let sum_of = total g.T.Sum.Monoid.empty op g.T.Measured.measure in
    let before = flattened (take cut.run c.seq.result.now) in
    c.join.ensures
    ∙ (λ i. op (c.cut_with_sum-sum.ensures.sum i) (c.sum_of.ensures i))
    ∙ sym (total-append g.T.Measured.measure g.met.T.Sum.Monoid.laws before cut.prefix.now)
    ∙ ap sum_of (sym c.cut_with_sum-sum.ensures.cut.before)
    ∙ ap (λ items. sum_of (take c.args.i items)) c.seq.ensures.items
