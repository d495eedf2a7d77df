use Rattle.std.proofs.Common.{◌<◌, true, false, length, sym, subst, ◌∙◌, get_or-set_same}
use Rattle.productions.proofs.marks.Marks.mark.Goals as goal

pub invariant_of-self : goal.invariant_of-self
invariant_of-self c =
    let bits = c.self.inside.bits.items in
    let i = c.args.i in
    let within : i < length bits = subst (λ b. i < length b) (sym c.self.view_is) c.requires in
    (λ e. absurd (let f : ⊥ = cc in f), λ blank. sym (get_or-set_same bits i true false within) ∙ blank i)
