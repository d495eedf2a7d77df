use Rattle.runs.proofs.Std.{ℕ, arith, sym, ap, ◌∙◌, ◌≡◌, ◌+◌, take, below_more}
use Rattle.runs.proofs.Common.{total}
use Rattle.runs.proofs.Totals.{walked}
use Rattle.runs.proofs.list.locate_in.Goals.{After-reached}
use Rattle.runs.proofs.list.locate_in.Goals as goal

-- the sum past the item, and whether it reaches the goal
past : (g : _) (c : After-reached g) → let sum = g.T.Sum.Monoid.op c.args.before
    (total g.T.Sum.Monoid.empty g.T.Sum.Monoid.op g.T.Measured.measure (take (c.loop-item.item-index + 1) c.args.items.now)) in
    (c.join-past.result ≡ sum) × (g.G.Goal.reaches c.args.goal.now sum ≡ c.reached.result)
past g c =
    let is = walked g.T.Measured.measure g.met.T.Sum.Monoid.laws c.args.before c.args.items.now c.loop-item.item-index c.item-item.result c.loop-item.sum c.sum.result c.join-past.result
    (omega (arith, c.loop-item-test.true)) c.item-item.is c.loop-item.invariant.summed c.sum.ensures c.join-past.ensures in
    (is, ap (g.G.Goal.reaches c.args.goal.now) (sym is) ∙ sym c.reached.ensures)

pub returns-then-reached : goal.returns-then-reached
returns-then-reached g c =
    let h = c.loop-item.invariant in
    let up_to = λ (n : ℕ). g.T.Sum.Monoid.op c.args.before (total g.T.Sum.Monoid.empty g.T.Sum.Monoid.op g.T.Measured.measure (take n c.args.items.now)) in
    record {
      within = omega (arith, h.counted, c.loop-item-test.true);
      sum_is = h.summed ∙ ap up_to (sym h.counted);
      not_before = λ j l. h.none j (omega (arith, l, h.counted));
      reached_at = λ _. ap (λ n. g.G.Goal.reaches c.args.goal.now (up_to (n + 1))) h.counted ∙ (past g (goal.at.returns-then-reached g c).After-reached).1 ∙ c.if-reached.true;
    }

pub loop-item-preserved : goal.loop-item-preserved
loop-item-preserved g c =
    let h = c.loop-item.invariant in
    let (summed, tried) = past g (goal.at.loop-item-preserved g c).After-reached in
    record { counted = omega (arith, h.counted); summed = summed; none = below_more _ _ h.none (tried ∙ c.if-reached.false) }
