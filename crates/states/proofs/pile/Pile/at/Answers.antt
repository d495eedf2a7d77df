use Rattle.states.proofs.Std.{◌+◌, ◌≡◌, List, arith, subst, sym, take, IfOk, IfSome}
use Rattle.states.proofs.Common.{AreStatesAfter, HaveRoots}
use Rattle.states.proofs.StackWays.{found_at, roots_forest}
use Rattle.parser.specs.Machine.{plain_of}
use Rattle.parser.specs.Parses.{AreStacked, verdict_in}
use Rattle.trees.specs.declared.store.Child.{Child}
use Rattle.states.proofs.pile.Pile.at.Goals as goal

pub pile_at-requires-clause-trees : goal.pile_at-requires-clause-trees
pile_at-requires-clause-trees c =
    let g = c.args.tables.now.grammar in
    let cells = c.args.store.now in
    let stop = c.requires.1.stop in (
      stop.roots,
      roots_forest g cells c.stack.result.now stop.roots (subst (λ (cs : List Child). HaveRoots g (plain_of cells cs) stop.roots) (sym c.stack.ensures) stop.are_roots),
    )

pub returns-clause-after : goal.returns-clause-after
returns-clause-after c kinds is =
    let t = c.args.tables.now in
    let cells = c.args.store.now in
    let v = verdict_in cells c.args.parse.now.verdict in
    let place : c.in-Some.place + 1 ≡ c.args.count = omega (arith, c.in-Some.ensures) in
    let stacked = subst (λ (cs : List Child). AreStacked t.grammar kinds v (plain_of cells cs)) (sym c.stack.ensures) is.stop.stack in
    subst (λ n. IfOk c.pile_at.result (λ found. IfSome found (λ pile. AreStatesAfter t (take n kinds) pile.states))) place
    (found_at t kinds cells c.stack.result.now v is.stop.verdict stacked c.in-Some.place c.pile_at.result c.pile_at.ensures.within c.pile_at.ensures.states)
