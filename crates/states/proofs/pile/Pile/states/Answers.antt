use Rattle.states.proofs.Std.{All, subst, sym}
use Rattle.states.specs.Stacks.{IsReached}
use Rattle.states.proofs.pile.Pile.states.Goals as goal

pub returns-clause-reached : goal.returns-clause-reached
returns-clause-reached c =
    subst (λ v. All (IsReached v.tables) c.deref.result.now) c.self.view_is
    (subst (λ l. All (IsReached c.self.inside.tables.now) l) (sym c.deref.ensures.value) c.self.invariant.2)
