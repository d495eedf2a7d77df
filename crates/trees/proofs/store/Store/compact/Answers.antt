use Rattle.trees.proofs.Std.{◌≡◌, length, map, ap, subst, arith, sym, ◌∙◌}
use Rattle.trees.proofs.Common.{Child, AreBelow, all_trees, tree, nodes, sizes, rank, renamed, AreRanks, IsMarked}
use Rattle.trees.proofs.Slides.{marked_below, rank_le, slid_below, slid_trees}
use Rattle.trees.proofs.store.Store.compact.Goals as goal

pub returns-clause-trees : goal.returns-clause-trees
returns-clause-trees c =
    let old = c.args.self.now in
    let new = c.slide.new.stored.items in
    let roots = nodes c.args.roots.now in
    let marks = c.in_ok-marks.marks.items in
    let ranks = c.in_ok-ranks.ranks.items in
    let names : nodes c.rename_roots.new.roots ≡ map (renamed ranks) roots = c.rename_roots.ensures ∙ ap (λ r. map (renamed r) roots) c.deref-5.ensures.value in
    let slid : (child : Child) → IsMarked marks child → tree new (renamed ranks child) ≡ tree old child = λ child m.
    ap (λ r. tree new (renamed r child)) (sym c.deref-4.ensures.value) ∙ c.slide.ensures.trees child (subst (λ l. IsMarked l child) (sym c.deref-3.ensures.value) m)
    ∙ ap (λ cells. tree cells child) c.self.view_is in
    ap (all_trees new) names ∙ slid_trees old new marks ranks roots slid c.in_ok-marks.ensures.roots

pub returns-clause-below : goal.returns-clause-below
returns-clause-below c =
    let new = c.slide.new.stored.items in
    let roots = nodes c.args.roots.now in
    let marks = c.in_ok-marks.marks.items in
    let ranks = c.in_ok-ranks.ranks.items in
    let marked = c.in_ok-marks.ensures.roots in
    let are = subst (λ m. AreRanks m ranks) c.deref-2.ensures.value c.in_ok-ranks.ensures in
    let names : nodes c.rename_roots.new.roots ≡ map (renamed ranks) roots = c.rename_roots.ensures ∙ ap (λ r. map (renamed r) roots) c.deref-5.ensures.value in
    let count : length new ≡ rank marks (length marks) = c.slide.ensures.count ∙ ap (λ m. rank m (length m)) c.deref-3.ensures.value in
    subst (AreBelow (length new)) (sym names) (subst (λ n. AreBelow n (map (renamed ranks) roots)) (sym count)
    (slid_below marks ranks (length marks) roots are (omega arith) (marked_below marks roots marked) marked))

pub returns-clause-shorter : goal.returns-clause-shorter
returns-clause-shorter c =
    let marks = c.in_ok-marks.marks.items in
    omega (
      arith,
      c.slide.ensures.count,
      ap (λ m. rank m (length m)) c.deref-3.ensures.value,
      rank_le marks (length marks),
      c.in_ok-marks.ensures.long,
      ap length c.deref.ensures.value,
      ap length c.self.view_is,
    )

pub returns-clause-sizes : goal.returns-clause-sizes
returns-clause-sizes c =
    let roots = nodes c.args.roots.now in
    omega (arith, c.slide.ensures.count, ap (λ m. rank m (length m)) c.deref-3.ensures.value, c.in_ok-marks.ensures.few, ap (λ cells. sizes cells roots) (c.deref.ensures.value ∙ c.self.view_is))
