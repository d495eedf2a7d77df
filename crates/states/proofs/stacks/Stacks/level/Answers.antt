use Rattle.std.proofs.Common.{◌≡◌, ◌∙◌, ◌<◌, ap, get_or, length, subst, sym}
use Rattle.std.proofs.lemmas.Bool.{ltb-true}
use Rattle.states.specs.Stacks.{IsReached}
use Rattle.states.proofs.stacks.Stacks.level.Goals as goal

pub returns-in-Some : goal.returns-in-Some
returns-in-Some c =
    let t = c.self.inside.tables.now in
    let items = c.self.inside.levels.items in
    let level = c.in-Some.level.now in
    let found = c.in-Some.ensures.lookup in
    let same = c.deref.ensures.value in
    let inside : c.args.stack < length items = subst (λ l. c.args.stack < length l) same (ltb-true c.args.stack (length c.deref.result.now) (sym found.0)) in
    let is : level ≡ get_or items c.args.stack level = found.1 ∙ ap (λ l. get_or l c.args.stack level) same in
    subst (λ u. IsReached u level.state) c.self.view_is (subst (λ v. IsReached t v.state) (sym is) (c.self.invariant c.args.stack level inside))
