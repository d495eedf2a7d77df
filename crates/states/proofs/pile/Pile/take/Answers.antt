use Rattle.states.proofs.Std.{◌<◌, ◌≤◌, All, All-take, arith, length, rules, subst, sym}
use Rattle.states.proofs.Common.{IsAccepted}
use Rattle.std.proofs.lemmas.List.{length-take-le}
use Rattle.states.specs.Stacks.{IsReached}
use Rattle.states.proofs.pile.Pile.take.Goals as goal

pub invariant_of-self : goal.invariant_of-self
invariant_of-self c =
    let t = c.self.inside.tables.now in
    let old = c.self.inside.states.items in
    let left = c.in_ok-left.left in
    let few : left ≤ length old = search rules in
    subst (λ l. IsAccepted t.grammar × (0 < length l) × All (IsReached t) l) (sym c.truncate.ensures.items) (
      c.self.invariant.0,
      omega (arith, length-take-le left old few, c.if-left-eq0.false),
      All-take (IsReached t) left old c.self.invariant.2,
    )
