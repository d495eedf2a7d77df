use Rattle.states.proofs.Std.{◌<◌, ◌∙◌, All, length, subst, sym}
use Rattle.states.proofs.Common.{IsAccepted}
use Rattle.states.specs.Stacks.{IsReached}
use Rattle.states.proofs.pile.Pile.copy.Goals as goal

pub invariant_of-result : goal.invariant_of-result
invariant_of-result c =
    let t = c.self.inside.tables.now in
    subst (λ l. IsAccepted t.grammar × (0 < length l) × All (IsReached t) l) (sym (c.in_ok-from_slice.ensures.items ∙ c.deref.ensures.value)) c.self.invariant
