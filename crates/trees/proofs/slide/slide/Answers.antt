use Rattle.trees.proofs.Std.{◌+◌, set, sym, subst, rules, arith, common_steps}
use Rattle.trees.proofs.Slides.{IsSlidTo, slid_skip, slid_step, swapped_below}
use Rattle.trees.proofs.slide.slide.Goals.{then-marks-i, else-marks-i}
use Rattle.trees.proofs.slide.slide.Goals as goal

pub rename-requires-clause-below : goal.rename-requires-clause-below
rename-requires-clause-below c = swapped_below c.args.stored.now.items c.args.marks.now c.args.ranks.now c.loop-i.i c.loop-i.stored.items c.loop-i.next
    c.swap.new.self.items c.index_mut.result.now c.requires.store c.requires.long c.requires.ranks c.if-marks-i.true c.loop-i.invariant.slid c.swap.ensures.by_index c.index_mut.ensures.value

pub loop-i-preserved : goal.loop-i-preserved
loop-i-preserved c =
    let old = c.args.stored.now.items in
    let marks = c.args.marks.now in
    let ranks = c.args.ranks.now in
    let i = c.loop-i.i in
    elim c.if-marks-i.branch [
      | then-marks-i w ↦
          let swapped = w.swap.new.self.items in
          let next = c.loop-i.next in
          let step = slid_step old marks ranks i c.loop-i.stored.items next swapped w.index_mut.result.now w.rename.new.self c.requires.store c.requires.long
          c.requires.closed c.requires.ranks w.if-marks-i.true c.loop-i.invariant.slid w.swap.ensures.by_index w.index_mut.ensures.value w.rename.ensures in
          record {
            slid = subst (λ v. IsSlidTo old marks ranks (i + 1) v.items c.if-marks-i.next) (sym w.stored-is)
                (subst (IsSlidTo old marks ranks (i + 1) (set swapped next w.rename.new.self)) (sym w.next-is) step);
          }
      | else-marks-i w ↦
          record {
            slid = subst (λ v. IsSlidTo old marks ranks (i + 1) v.items c.if-marks-i.next) (sym w.stored-is)
                (subst (λ n. IsSlidTo old marks ranks (i + 1) c.loop-i.stored.items n) (sym w.next-is)
                (slid_skip old marks ranks i c.loop-i.stored.items c.loop-i.next c.loop-i-test.true w.if-marks-i.false c.loop-i.invariant.slid));
          }
    ]

pub returns-clause-store : goal.returns-clause-store
returns-clause-store c = search rules

pub returns-clause-count : goal.returns-clause-count
returns-clause-count c = grind (arith, common_steps)

pub returns-clause-trees : goal.returns-clause-trees
returns-clause-trees c = grind (arith, common_steps)

pub swap-requires-clause-i_in_bounds : goal.swap-requires-clause-i_in_bounds
swap-requires-clause-i_in_bounds c = grind (arith, common_steps)

pub index_mut-requires : goal.index_mut-requires
index_mut-requires c = grind (arith, common_steps)

pub rename-requires-clause-lower : goal.rename-requires-clause-lower
rename-requires-clause-lower c = grind (arith, common_steps)
