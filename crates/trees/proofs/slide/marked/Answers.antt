use Rattle.trees.proofs.Std.{rules, ◌≡◌, ◌<◌, ℕ, Bool, false, List, replicate, [], ◌++◌, drop, length, get_or, take, set, true, sym, ap, ◌∙◌, subst, arith, append-nil, drop_all, length-replicate, length-set, take_all, take_more, common_steps}
use Rattle.trees.proofs.Common.{nodes, trees_from, owed, rank, AreMarked}
use Rattle.trees.proofs.Owed.{owed_none, owed_set, sizes_from}
use Rattle.trees.proofs.Slides.{root_below, roots-marked}
use Rattle.trees.proofs.slide.marked.Goals as goal

-- marks that were written back into a vector of as many
written : (new marks : List Bool) (n : ℕ) → n ≡ length marks → length new ≡ length marks → take n (new ++ drop (length new) marks) ≡ new
written new marks n e same = ap (λ l. take n (new ++ l)) (drop_all (length new) marks (omega (arith, same))) ∙ ap (take n) (append-nil new) ∙ take_all n new (omega (arith, e, same))

pub loop-root-init : goal.loop-root-init
loop-root-init c =
    let n = length c.args.stored.now in
    let none : c.in_ok-marks.marks.items ≡ replicate n false = c.in_ok-marks.ensures.items_if_clones_equal (λ y e. e) in
    record {
      long = ap length none ∙ length-replicate n false;
      marked = tt;
      few = omega (arith, ap (owed n (trees_from [] c.args.stored.now)) none, owed_none n (trees_from [] c.args.stored.now) n);
    }

pub index_mut-requires : goal.index_mut-requires
index_mut-requires c = omega (
  arith,
  c.loop-root.invariant.long,
  root_below (length c.args.stored.now) c.args.roots.now c.loop-root.root-index
      (record { index = 0 }) c.requires.below c.loop-root-test.true,
)

pub loop-root-preserved : goal.loop-root-preserved
loop-root-preserved c =
    let marks = c.loop-root.marks.items in
    let i = c.loop-root.root-index in
    let roots = c.args.roots.now in
    let root = get_or roots i (record { index = 0 }) in
    let below : root.index < length marks = omega (arith, c.loop-root.invariant.long, root_below (length c.args.stored.now) roots i (record { index = 0 }) c.requires.below c.loop-root-test.true) in
    record {
      long = length-set marks root.index true ∙ c.loop-root.invariant.long;
      few = omega (
        arith,
        owed_set (length c.args.stored.now) (trees_from [] c.args.stored.now) marks root.index (omega (arith, below, c.loop-root.invariant.long)),
        sizes_from c.args.stored.now roots i (record { index = 0 }) c.loop-root-test.true,
        c.loop-root.invariant.few,
      );
      marked = subst (λ l. AreMarked (set marks root.index true) (nodes l)) (sym (take_more roots i (record { index = 0 }) c.loop-root-test.true))
          (roots-marked marks (take i roots) root below c.loop-root.invariant.marked);
    }

pub returns-clause-few : goal.returns-clause-few
returns-clause-few c =
    let marks = c.loop-root.marks.items in
    let new = c.mark_below.new.marks in
    let n : c.loop-root.marks.len ≡ length marks = search rules in
    let is = written new marks c.loop-root.marks.len n (c.mark_below.ensures.long ∙ sym c.loop-root.invariant.long) in
    omega (
      arith,
      ap (λ l. rank l (length l)) is,
      c.mark_below.ensures.few,
      ap (owed (length c.args.stored.now) (trees_from [] c.args.stored.now)) c.deref_mut.ensures.value,
      c.loop-root.invariant.few,
    )

pub returns-clause-roots : goal.returns-clause-roots
returns-clause-roots c =
    let marks = c.loop-root.marks.items in
    let new = c.mark_below.new.marks in
    let roots = c.args.roots.now in
    let n : c.loop-root.marks.len ≡ length marks = search rules in
    let is = written new marks c.loop-root.marks.len n (c.mark_below.ensures.long ∙ sym c.loop-root.invariant.long) in
    let before : AreMarked c.deref_mut.result.now (nodes roots) =
    (subst (λ l. AreMarked l (nodes roots)) (sym c.deref_mut.ensures.value)
    (subst (λ l. AreMarked marks (nodes l)) (take_all c.loop-root.root-index roots c.loop-root-test.false) c.loop-root.invariant.marked)) in
    subst (λ l. AreMarked l (nodes roots)) (sym is) (c.mark_below.ensures.kept (nodes roots) before)

pub returns-clause-closed : goal.returns-clause-closed
returns-clause-closed c = grind (arith, common_steps)

pub returns-clause-long : goal.returns-clause-long
returns-clause-long c = grind (arith, common_steps)
