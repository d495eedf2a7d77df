use Rattle.patterns.proofs.Std.{◌∷◌, refl, ◌∙◌, ap, arith}
use Rattle.patterns.proofs.Common.{Plain, Escaped, writing}
use Rattle.patterns.proofs.classes.literal_char.Goals as goal

pub returns-in-Some-Sign-default : goal.returns-in-Some-Sign-default
returns-in-Some-Sign-default c =
    let a = c.in-Some-Sign-default in
    let e = a.ensures.cases in
    ((Plain a.field-0-0-0 a.code, ap writing (e.0 ∙ ap (λ x. x ∷ a.rest.now) a.field-0-0-is), (refl, c.if-code-ne34.true)), omega (arith, e.1))

pub returns-in-Some-Escape-default : goal.returns-in-Some-Escape-default
returns-in-Some-Escape-default c =
    let a = c.in-Some-Escape-default in
    let e = a.ensures.cases in
    ((Escaped a.field-0-0-0 a.code, ap writing (e.0 ∙ ap (λ x. x ∷ a.rest.now) a.field-0-0-is), refl), omega (arith, e.1))
