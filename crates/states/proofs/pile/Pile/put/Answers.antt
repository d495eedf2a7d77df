use Rattle.states.proofs.Std.{◌<◌, ◌∷◌, [], All, arith, length, length-append, subst, sym}
use Rattle.states.proofs.Common.{IsAccepted}
use Rattle.std.proofs.lemmas.List.Elements.{All-push}
use Rattle.states.specs.Stacks.{IsReached}
use Rattle.states.proofs.pile.Pile.put.Goals as goal

pub invariant_of-self-in_err-push-2 : goal.invariant_of-self-in_err-push-2
invariant_of-self-in_err-push-2 c =
    let t = c.self.inside.tables.now in
    subst (λ l. IsAccepted t.grammar × (0 < length l) × All (IsReached t) l) (sym c.in_err-push-2.ensures.items) c.self.invariant

pub invariant_of-self-2 : goal.invariant_of-self-2
invariant_of-self-2 c =
    let t = c.self.inside.tables.now in
    let old = c.self.inside.states.items in
    subst (λ l. IsAccepted t.grammar × (0 < length l) × All (IsReached t) l) (sym c.in_ok-push-2.ensures.items) (
      c.self.invariant.0,
      omega (arith, length-append old (c.args.state ∷ [])),
      All-push (IsReached t) old c.args.state c.self.invariant.2 (subst (λ v. IsReached v.tables c.args.state) (sym c.self.view_is) c.requires),
    )
