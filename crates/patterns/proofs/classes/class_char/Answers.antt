use Rattle.patterns.proofs.Std.{◌∷◌, refl, ◌∙◌, ap, arith}
use Rattle.patterns.proofs.Common.{Plain, Escaped, writing}
use Rattle.patterns.proofs.classes.class_char.Goals as goal

pub returns-in-Some-Sign-default : goal.returns-in-Some-Sign-default
returns-in-Some-Sign-default c =
    let a = c.in-Some-Sign-default in
    let e = a.ensures.cases in
    let h = c.if-stands_for_itself.ensures in
    ((Plain a.place a.code, ap writing (e.0 ∙ ap (λ x. x ∷ a.rest.now) a.field-0-0-is), refl, (refl, h.0, h.1, h.2)), omega (arith, e.1))

pub returns-in-Some-Escape-default : goal.returns-in-Some-Escape-default
returns-in-Some-Escape-default c =
    let a = c.in-Some-Escape-default in
    let e = a.ensures.cases in
    ((Escaped a.place a.code, ap writing (e.0 ∙ ap (λ x. x ∷ a.rest.now) a.field-0-0-is), refl, refl), omega (arith, e.1))
