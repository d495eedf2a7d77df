use Rattle.colours.proofs.Std.{◌∙◌, ap, arith, sym}
use Rattle.colours.proofs.Common.{Position}
use Rattle.colours.proofs.Stepping.{caught, few_plain, place-plain, small_character, step-plain}
use Rattle.colours.proofs.steps.Steps.advance.Goals as goal

pub after_plain-self-inside-requires : goal.after_plain-self-inside-requires
after_plain-self-inside-requires c =
    let h = c.self.invariant in omega (arith, small_character _ _ _ _ _ _ _ _ _ h, few_plain _ _ _ _ _ _ _ _ _ h, c.if-n-self.true)

pub invariant_of-self : goal.invariant_of-self
invariant_of-self c = step-plain _ _ _ _ _ _ _ _ _ c.self.invariant c.args.n c.if-n-self.true c.after_plain-self-inside.result c.after_plain-self-inside.ensures

pub returns-then-n-self-clause-last : goal.returns-then-n-self-clause-last
returns-then-n-self-clause-last c =
    let h = c.self.invariant in
    caught _ _ c.self.view_is c.requires ∙ sym (ap (λ (p : Position). p.line) h.is)
    ∙ ap (λ (p : Position). p.line) (place-plain _ _ _ _ _ _ _ _ _ h c.args.n c.if-n-self.true)
