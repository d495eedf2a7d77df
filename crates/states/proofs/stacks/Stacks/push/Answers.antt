use Rattle.std.proofs.Common.{subst, sym}
use Rattle.std.proofs.lemmas.List.Elements.{All-push}
use Rattle.states.specs.Stacks.{AreReached, IsReached}
use Rattle.states.proofs.stacks.Stacks.push.Goals as goal

pub invariant_of-self-2 : goal.invariant_of-self-2
invariant_of-self-2 c =
    let t = c.self.inside.tables.now in
    subst (AreReached t) (sym c.in_ok-push.ensures.items)
    (All-push (λ level. IsReached t level.state) c.self.inside.levels.items _ c.self.invariant (subst (λ u. IsReached u c.args.state) (sym c.self.view_is) c.requires))

pub invariant_of-self-in_err-push : goal.invariant_of-self-in_err-push
invariant_of-self-in_err-push c =
    subst (AreReached c.self.inside.tables.now) (sym c.in_err-push.ensures.items) c.self.invariant
