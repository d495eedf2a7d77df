use Rattle.seqtree.proofs.Std.{ap, ◌∙◌, arith, rules}
use Rattle.seqtree.proofs.Common.{items_of, total}
use Rattle.seqtree.proofs.HeightBound.{IsLow-fork, high-fork}
use Rattle.seqtree.proofs.Totals.{total-around}
use Rattle.seqtree.proofs.tree.fork.Goals as goal

pub invariant_of-node : goal.invariant_of-node
invariant_of-node g c =
    let op = g.T.Sum.Monoid.op in
    let right = total g.T.Sum.Monoid.empty op g.T.Measured.measure (items_of c.args.right) in
    let left = total g.T.Sum.Monoid.empty op g.T.Measured.measure (items_of c.args.left) in
    record {
      len_is = search rules;
      tall_is = search rules;
      balanced = c.requires.balanced;
      low = λ k h. let e = IsLow-fork _ _ _ _ c.height.ensures.low c.height-2.ensures.low c.requires.balanced k (omega arith) in omega arith;
      high = high-fork c.height.result c.height-2.result _ _ _ _ (search rules) (search rules) c.height.ensures.high c.height-2.ensures.high;
      fits = omega arith;
      all_is = c.sum_with_right.ensures ∙ (ap (λ s. op s right) (c.sum_with_left.ensures ∙ ap (op left) c.sum.ensures)
          ∙ total-around g.T.Measured.measure g.met.T.Sum.Monoid.laws _ c.node.inside.item _);
    }
