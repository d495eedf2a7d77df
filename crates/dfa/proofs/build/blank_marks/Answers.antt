use Rattle.dfa.proofs.Std.{◌+◌, ◌++◌, ◌∷◌, drop, sym, ap, ◌∙◌, subst, at_drop_more}
use Rattle.dfa.proofs.Common.{IsWellMade, all_positions, unmarked, positions}
use Rattle.dfa.proofs.JoinedLists.{one_more, unmarked-add, all_made}
use Rattle.dfa.proofs.build.blank_marks.Goals as goal

pub loop-pattern-preserved : goal.loop-pattern-preserved
loop-pattern-preserved c =
    let xs = c.args.patterns.now in
    let i = c.loop-pattern.pattern-index in
    let x = c.pattern-item.result in
    let later = all_positions (drop (i + 1) xs) in
    let at = at_drop_more all_positions xs i x c.loop-pattern-test.true ∙ ap (λ y. all_positions (y ∷ drop (i + 1) xs)) (sym c.pattern-item.is) in
    let new = c.in_ok-blank.ensures ∙ ap (λ y. c.loop-pattern.marks.items ++ unmarked (positions y)) c.expression.ensures.value in
    let made : IsWellMade x = subst IsWellMade c.expression.ensures.value c.expression.ensures.well_made in
    record {
      blank = one_more c.blank.new.out.items c.loop-pattern.marks.items (unmarked (positions x)) (unmarked (all_positions (drop i xs))) (unmarked later)
          (unmarked (all_positions xs)) new (ap unmarked at ∙ sym (unmarked-add (positions x) later)) c.loop-pattern.invariant.blank;
      made = λ h. c.loop-pattern.invariant.made (all_made xs i x c.loop-pattern-test.true (sym c.pattern-item.is) made h);
    }
