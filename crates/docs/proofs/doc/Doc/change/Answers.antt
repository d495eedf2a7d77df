use Rattle.docs.proofs.Std.{◌≡◌, ◌≤◌, ◌+◌, ◌-◌, length, min, refl, ap, sym, subst, ◌∙◌, arith, chars, common_steps}
use Rattle.docs.proofs.Common.{Edit, edit, length-edit, AreMadeBy, AreOlder, AreStamped, all_trees, forest_in, last_edit, edit_of}
use Rattle.docs.proofs.Edits.{next_is, next_later, next_positive, number_after_edit, same_edit}
use Rattle.docs.proofs.Refusals.{IsText-changed, large_edit, passed_on, after_text, all_made}
use Rattle.docs.proofs.doc.Doc.change.Goals as goal

pub settle-requires : goal.settle-requires
settle-requires c =
    let old = c.args.self in
    let named = ap (λ (e : Edit). e.number) c.in_ok-edit.ensures.made in
    let number = c.saturating_add-number.ensures ∙ ap (λ n. min (n + 1) 18_446_744_073_709_551_615) c.number.ensures in
    record {
      was = old.text;
      current = c.requires;
      leads = c.in_ok-edit.ensures.leads;
      later = omega (arith, named, next_later old.parse.number c.saturating_add-number.result number (omega (arith, c.number.type_inv, c.number.ensures)));
      numbered = omega (arith, named, next_positive old.parse.number c.saturating_add-number.result number);
    }

pub returns-clause-changed : goal.returns-clause-changed
returns-clause-changed c =
    let l = c.args.language.now in
    let s = chars c.args.new.now in
    let old = c.args.self in
    let next = c.settle.new.self in
    let settled = c.in_ok-settle.ensures.settled in
    let same = c.in_ok-settle.ensures.same in
    let text = same.2 ∙ (c.in_ok-edit.ensures.edited ∙ sym (c.span-from.ensures.edits s)) in
    let number = settled.number ∙ (ap (λ (e : Edit). e.number) c.in_ok-edit.ensures.made ∙ (c.saturating_add-number.ensures ∙ ap (λ n. min (n + 1) 18_446_744_073_709_551_615) c.number.ensures)) in
    let made = c.in_ok-edit.ensures.made
    ∙ same_edit old.unit old.text c.args.range s c.span-from.result _ c.saturating_add-number.result _ c.span-from.ensures.is refl refl in
    let edit = made ∙ ap (edit_of old.unit old.text c.args.range s) (sym (settled.number ∙ ap (λ (e : Edit). e.number) c.in_ok-edit.ensures.made)) in
    let stamped : AreStamped l.file _ old next = record { tokens = settled.stamps.tokens; nodes = settled.stamps.nodes; older = settled.stamps.older; anew = settled.stamps.anew } in
    let trees = all_trees old.store old.parse.stack in
    let fits : old.parse.number ≤ 18_446_744_073_709_551_615 = omega (arith, c.number.type_inv, c.number.ensures) in
    record {
      is = λ i. record { unit = same.0 i; version = same.1 i; text = text i; last = last_edit next };
      last = next_is l old next c.requires settled.current old.unit c.args.range s _ _ fits text number edit refl settled.scanned
          (λ older. settled.built (subst (λ n. AreOlder n trees) settled.number older))
          (λ younger. subst (λ n. AreMadeBy n (forest_in next.store next.parse.stack)) (sym settled.number)
          (settled.stamps.anew (λ older. younger (subst (λ n. AreOlder n trees) (sym settled.number) older))));
      stamps = subst (λ x. AreStamped l.file x old next) (edit ∙ ap (edit_of old.unit old.text c.args.range s) (number_after_edit old next number)) stamped;
      current = settled.current;
    }

pub returns-in_err-edit-clause-too_large : goal.returns-in_err-edit-clause-too_large
returns-in_err-edit-clause-too_large c =
    let by = large_edit c.put.result (IsText-changed c.args.self.unit c.args.self.text c.args.range c.args.new.now c.put.ensures.characters c.utf8.new)
    (c.span-from.ensures.edits (chars c.args.new.now)) c.put.ensures.too_large in
    passed_on c.put.result _ by _ c.in_err-edit.field-0.0 c.in_err-edit.was c.from_residual.ensures.1

pub returns-in_err-settle-clause-too_large : goal.returns-in_err-settle-clause-too_large
returns-in_err-settle-clause-too_large c =
    let by = large_edit c.put.result (IsText-changed c.args.self.unit c.args.self.text c.args.range c.args.new.now c.put.ensures.characters c.utf8.new)
    (c.span-from.ensures.edits (chars c.args.new.now)) c.put.ensures.too_large in
    after_text c.put.result _ by _ c.in_ok-edit.edit c.in_ok-edit.was c.from_residual-in_err-settle.ensures.1

pub returns-clause-too_large : goal.returns-clause-too_large
returns-clause-too_large c =
    let by = large_edit c.put.result (IsText-changed c.args.self.unit c.args.self.text c.args.range c.args.new.now c.put.ensures.characters c.utf8.new)
    (c.span-from.ensures.edits (chars c.args.new.now)) c.put.ensures.too_large in
    all_made c.put.result _ by _ c.in_ok-edit.edit _ c.in_ok-edit.was refl
