use Rattle.std.proofs.Common.{arith, sym, ap, ◌∙◌}
use Rattle.runs.proofs.Totals.{total-more}
use Rattle.runs.proofs.run.sum_of.Goals as goal

pub loop-item-preserved : goal.loop-item-preserved
loop-item-preserved g c =
    c.join-sum.ensures
    ∙ (λ i. g.T.Sum.Monoid.op (c.loop-item.invariant i) ((c.sum.ensures ∙ ap g.T.Measured.measure c.item-item.is) i))
    ∙ sym (total-more g.T.Measured.measure g.met.T.Sum.Monoid.laws c.args.items.now c.loop-item.item-index c.item-item.result (omega (arith, c.loop-item-test.true)))
