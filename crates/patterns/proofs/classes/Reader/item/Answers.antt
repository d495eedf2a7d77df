use Rattle.patterns.proofs.Std.{ℕ, [], ◌∷◌, refl, sym, ◌∙◌, ap, subst, arith, common_steps}
use Rattle.patterns.proofs.Common.{Plain, InClass, Items, fault_from, IsClassChar, writing, place}
use Rattle.patterns.proofs.Literals.{no_item, no_last, first_step}
use Rattle.patterns.proofs.classes.Reader.item.Goals as goal

pub returns-in_default-clause-fault : goal.returns-in_default-clause-fault
returns-in_default-clause-fault c =
    rw c.syntax.ensures (no_item c.args.self.end (writing c.args.words.now) c.in_default.ensures c.requires)

pub returns-in_default-strip-clause-spelled : goal.returns-in_default-strip-clause-spelled
returns-in_default-strip-clause-spelled c =
    let h = c.in-Some.ensures in
    let P : ℕ → Type 0 = λ x. IsClassChar x h.0.0 in
    (h.0.0 ∷ [], h.0.1, (subst P (sym c.range.ensures.first) h.0.3, c.range.ensures.last ∙ sym c.range.ensures.first))

pub returns-in_default-class_char-clause-fault : goal.returns-in_default-class_char-clause-fault
returns-in_default-class_char-clause-fault c =
    let h = c.in-Some.ensures in
    let g = c.in-Some-strip.ensures in
    rw c.syntax-in_default-class_char.ensures (λ d b negated before.
    let n = c.args.self.end in
    ap (fault_from n (InClass d b negated before Items)) (h.0.1 ∙ ap (λ x. h.0.0 ∷ x) g.0)
    ∙ first_step n d b negated before c.in-Some.first h.0.0 (Plain c.in-Some-strip.field-0-0 45 ∷ writing c.in-Some-strip.after.now) h.0.3
    ∙ no_last n (writing c.in-Some-strip.after.now) c.in_default-class_char.ensures d b negated before (place h.0.0) c.in-Some.first)

pub returns-clause-spelled : goal.returns-clause-spelled
returns-clause-spelled c =
    let h = c.in-Some.ensures in
    let g = c.in-Some-strip.ensures in
    let k = c.in-Some-class_char.ensures in
    let P : ℕ → Type 0 = λ x. IsClassChar x h.0.0 in
    let Q : ℕ → Type 0 = λ x. IsClassChar x k.0.0 in (
      h.0.0 ∷ Plain c.in-Some-strip.field-0-0 45 ∷ k.0.0 ∷ [],
      h.0.1 ∙ ap (λ x. h.0.0 ∷ x) (g.0 ∙ ap (λ x. Plain c.in-Some-strip.field-0-0 45 ∷ x) k.0.1),
      (subst P (sym c.range-2.ensures.first) h.0.3, refl, subst Q (sym c.range-2.ensures.last) k.0.3),
    )

pub returns-in_default-strip-clause-goes_on : goal.returns-in_default-strip-clause-goes_on
returns-in_default-strip-clause-goes_on c = grind (arith, common_steps)
