use Rattle.trees.proofs.Std.{rules, ◌<◌, length, get_or}
use Rattle.trees.proofs.Slides.{next-root_below}
use Rattle.trees.proofs.slide.rename_roots.Goals as goal

pub offset_bounds-ranks-root : goal.offset_bounds-ranks-root
offset_bounds-ranks-root c =
    let below : (get_or c.loop-root.roots c.loop-root.root-index (record { index = 0 })).index < length c.args.ranks.now =
    next-root_below (length c.args.ranks.now) c.loop-root.roots c.args.roots.now c.loop-root.root-index (record { index = 0 }) c.loop-root.invariant.rest c.requires c.loop-root-test.true in
    search rules

pub bounds-ranks-root : goal.bounds-ranks-root
bounds-ranks-root c = next-root_below (length c.args.ranks.now) c.loop-root.roots c.args.roots.now c.loop-root.root-index
    (record { index = 0 }) c.loop-root.invariant.rest c.requires c.loop-root-test.true
