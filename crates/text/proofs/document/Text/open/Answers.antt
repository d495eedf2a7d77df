use Rattle.text.proofs.Std.{arith, ap, sym, subst, ◌∙◌, ◌++◌, chars, append-nil}
use Rattle.text.proofs.Common.{IsText, units, Utf8, IsText-chars, text_in, units-chars}
use Rattle.text.proofs.Sizes.{size, size-chars}
use Rattle.text.proofs.document.Text.open.Goals as goal

pub replace-requires-clause-fits : goal.replace-requires-clause-fits
replace-requires-clause-fits c =
    let text = (λ i. chars (c.in_ok-from_str.ensures.ok i) ++ text_in (c.new-pieces.ensures i)) ∙ append-nil (chars c.args.text.now) in
    omega (arith, ap (units Utf8) text, units-chars c.args.text.now c.utf8.text, c.if-text-gt-LONGEST_TEXT.false)

pub invariant_of-result : goal.invariant_of-result
invariant_of-result c =
    let text = c.in_ok-replace.ensures.text ∙ (λ i. chars (c.in_ok-from_str.ensures.ok i) ++ text_in (c.new-pieces.ensures i)) ∙ append-nil (chars c.args.text.now) in
    record {
      text = subst IsText (sym text) (IsText-chars c.args.text.now c.utf8.text);
      few = omega (arith, ap size text, size-chars c.args.text.now c.utf8.text, c.if-text-gt-LONGEST_TEXT.false);
    }
