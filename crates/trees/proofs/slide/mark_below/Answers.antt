use Rattle.trees.proofs.Std.{◌≡◌, ◌+◌, ◌-◌, ◌<◌, suc, [], count_by, length, get_or, sym, ap, ◌∙◌, subst, arith, refl, get_or_read_under, take_all}
use Rattle.trees.proofs.Common.{blank, trees_from, AreBelow, mark_all, owed, AreMarked, IsClosedFrom}
use Rattle.trees.proofs.Cells.{all_below-more, from-length, store_at}
use Rattle.trees.proofs.Owed.{owed_next, owed_no}
use Rattle.trees.proofs.Slides.{all-kept, closed_next, closed_same, mark-long}
use Rattle.trees.proofs.slide.mark_below.Goals as goal

pub mark-requires : goal.mark-requires
mark-requires c =
    let n = length c.args.stored.now in
    let i = c.loop-i.i - 1 in
    let within : i < n = omega (arith, c.loop-i-test.true, c.loop-i.invariant.within) in
    let at = store_at c.args.stored.now c.requires.store i c.index-stored-i.result c.index-stored-i.result within c.index-stored-i.is in
    subst (AreBelow (length c.loop-i.marks)) (sym c.children.ensures)
    (all_below-more i (length c.loop-i.marks) (omega (arith, within, c.loop-i.invariant.long)) c.index-stored-i.result.children at.inside)

pub loop-i-preserved-then-marks-i : goal.loop-i-preserved-then-marks-i
loop-i-preserved-then-marks-i c =
    let stored = c.args.stored.now in
    let ts = trees_from [] stored in
    let marks = c.loop-i.marks in
    let i = c.loop-i.i - 1 in
    let within : i < length stored = omega (arith, c.loop-i-test.true, c.loop-i.invariant.within) in
    let next : c.loop-i.i ≡ i + 1 = omega (arith, c.loop-i-test.true) in
    let again : c.loop-i.i ≡ suc i = omega (arith, next) in
    let at : c.index-stored-i.result ≡ get_or stored i blank = get_or_read_under stored i (length stored) c.index-stored-i.result blank c.index-stored-i.is within refl in
    let is : c.mark.new.marks ≡ mark_all marks (get_or stored i blank).children = c.mark.ensures ∙ ap (mark_all marks) (c.children.ensures ∙ ap (λ cell. cell.children) at) in
    let cs = (get_or stored i blank).children in
    record {
      within = omega (arith, within);
      long = ap length is ∙ mark-long marks cs ∙ c.loop-i.invariant.long;
      kept = λ children h. subst (λ l. AreMarked l children) (sym is) (all-kept marks cs children (c.loop-i.invariant.kept children h));
      closed = subst (IsClosedFrom i stored) (sym is) (closed_next stored marks i c.requires.store within c.loop-i.invariant.long
          (subst (λ k. IsClosedFrom k stored marks) next c.loop-i.invariant.closed));
      few = omega (arith, ap (owed i ts) is, owed_next stored marks i c.requires.store within c.if-marks-i.true, ap (λ k. owed k ts marks) again, c.loop-i.invariant.few);
    }

pub loop-i-preserved : goal.loop-i-preserved
loop-i-preserved c =
    let stored = c.args.stored.now in
    let ts = trees_from [] stored in
    let marks = c.loop-i.marks in
    let i = c.loop-i.i - 1 in
    let next : c.loop-i.i ≡ i + 1 = omega (arith, c.loop-i-test.true) in
    let again : c.loop-i.i ≡ suc i = omega (arith, next) in
    let within : i < length stored = omega (arith, next, c.loop-i.invariant.within) in
    record {
      within = omega (arith, within);
      long = c.loop-i.invariant.long;
      kept = c.loop-i.invariant.kept;
      closed = closed_same stored marks i c.if-marks-i.false (subst (λ k. IsClosedFrom k stored marks) next c.loop-i.invariant.closed);
      few = omega (arith, owed_no i ts marks (omega (arith, within, from-length [] stored)) c.if-marks-i.false, ap (λ k. owed k ts marks) again, c.loop-i.invariant.few);
    }

pub returns-clause-few : goal.returns-clause-few
returns-clause-few c =
    let ts = trees_from [] c.args.stored.now in
    let marks = c.loop-i.marks in
    let none : c.loop-i.i ≡ 0 = omega (arith, c.loop-i-test.false) in
    omega (arith, ap (λ k. owed k ts marks) none, ap (count_by (λ mark. mark)) (take_all (length marks) marks (omega arith)), c.loop-i.invariant.few)
