use Rattle.states.proofs.Std.{◌++◌, ◌<◌, ◌≡◌, ◌∙◌, ◌∷◌, [], List, arith, length, subst, sym, true}
use Rattle.states.proofs.Common.{HasStates}
use Rattle.definitions.specs.TreeEdits.{plain}
use Rattle.definitions.specs.Trees.{IsTree}
use Rattle.states.proofs.Descents.{down_first, down_last, down_more, more_below}
use Rattle.states.proofs.Matches.{if_some}
use Rattle.states.specs.Descents.{IsEntered}
use Rattle.trees.specs.Cells.{IsBelow, tree}
use Rattle.trees.specs.declared.store.Child.{Child}
use Rattle.states.proofs.descent.pile_at.Goals as goal

pub enter-requires-clause-states : goal.enter-requires-clause-states
enter-requires-clause-states c =
    let after = c.in_ok-pile.ensures.after in
    (after.stack, subst (λ u. HasStates u after.stack c.in_ok-pile.pile.states) (sym c.in_ok-pile.ensures.tables) after.has)

pub down-init : goal.down-init
down-init c =
    let t = c.args.tables.now in
    let cells = c.args.store.now in
    let old = c.in_ok-pile.pile.states in
    let tables = c.in_ok-pile.ensures.tables in
    let after = c.in_ok-pile.ensures.after in
    let first : HasStates t [] old = subst (λ s. HasStates t s old) after.after after.has in (
      c.in_ok-found.ensures.tables ∙ tables,
      down_first t cells c.args.stack.now c.args.place old c.enter.new.self.states c.in-Some.inside first c.requires.below c.requires.trees.0 c.requires.trees.1
          (subst (λ u. IsEntered u cells c.args.stack.now c.args.place old c.enter.new.self.states c.in-Some.inside) tables
          (subst (λ (cs : List Child). IsEntered c.in_ok-pile.pile.tables cells cs c.args.place old c.enter.new.self.states c.in-Some.inside) c.of.ensures
          (if_some _ c.in_ok-found.found c.in-Some.inside c.in-Some.is c.in_ok-found.ensures.entered))),
    )

pub enter-requires-in-down-clause-states : goal.enter-requires-in-down-clause-states
enter-requires-in-down-clause-states c =
    let h = c.down.invariant.1 in
    (h.lefts, subst (λ u. HasStates u h.lefts c.down.pile.states) (sym c.down.invariant.0) h.has)

pub enter-requires-in-down-clause-below : goal.enter-requires-in-down-clause-below
enter-requires-in-down-clause-below c =
    let below : c.in-Node.id.index < length c.args.store.now = subst (IsBelow (length c.args.store.now)) c.in-Node.is c.down.invariant.1.below in
    more_below c.in-Node.id.index (length c.args.store.now) (omega (arith, below)) c.children-children.result c.children-children.ensures.below

pub down-preserved : goal.down-preserved
down-preserved c =
    let t = c.args.tables.now in
    let made = c.children-children.ensures.tree in
    let below : c.in-Node.id.index < length c.args.store.now = subst (IsBelow (length c.args.store.now)) c.in-Node.is c.down.invariant.1.below in (
      c.in_ok-found-2.ensures.tables ∙ c.down.invariant.0,
      down_more t c.args.store.now c.args.stack.now c.args.place c.down.pile.states c.enter-in-down.new.self.states c.down.inside c.in-Some-found.next c.down.invariant.1
          c.in-Node.id c.in-Node.is made.0 made.1 c.children-children.result made.2
          (more_below c.in-Node.id.index (length c.args.store.now) (omega (arith, below)) c.children-children.result c.children-children.ensures.below)
          (subst (λ u. IsEntered u c.args.store.now c.children-children.result c.down.inside.place c.down.pile.states c.enter-in-down.new.self.states c.in-Some-found.next) c.down.invariant.0
          (if_some _ c.in_ok-found-2.found c.in-Some-found.next c.in-Some-found.is c.in_ok-found-2.ensures.entered)),
    )

pub push_tree-requires-clause-states : goal.push_tree-requires-clause-states
push_tree-requires-clause-states c =
    let h = c.down.invariant.1 in
    (h.lefts, subst (λ u. HasStates u h.lefts c.down.pile.states) (sym c.down.invariant.0) h.has)

pub returns-then-branch-clause-states : goal.returns-then-branch-clause-states
returns-then-branch-clause-states c whole is ways =
    let h = c.down.invariant.1 in
    down_last c.args.tables.now c.args.store.now c.args.stack.now c.args.place c.down.pile.states c.push_tree.new.self.states c.down.inside h c.in-Token.field-0 c.in-Token.is whole is ways
    (subst (λ u. HasStates u h.lefts c.down.pile.states → IsTree u.grammar (plain (tree c.args.store.now c.down.inside.child)) h.symbol
    → c.in_ok-push_tree-in-Token.field-0 ≡ true → HasStates u (h.lefts ++ plain (tree c.args.store.now c.down.inside.child) ∷ []) c.push_tree.new.self.states)
    c.down.invariant.0 (c.in_ok-push_tree-in-Token.ensures.pushed h.lefts h.symbol) h.has h.is c.if-branch.true)
