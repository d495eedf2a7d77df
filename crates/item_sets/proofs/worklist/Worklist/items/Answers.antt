use Rattle.item_sets.proofs.worklist.Worklist.items.Goals as goal

pub loop-index-preserved : goal.loop-index-preserved
loop-index-preserved c =
    c.in_ok-add_items.ensures c.args.kernel.now c.loop-index.invariant
