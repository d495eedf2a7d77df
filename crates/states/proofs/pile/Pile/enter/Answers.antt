use Rattle.states.proofs.Std.{◌++◌, ◌-◌, ◌≡◌, ◌∙◌, ◌∷◌, [], List, arith, refl, subst, sym, true}
use Rattle.states.proofs.Common.{HasStates}
use Rattle.states.proofs.Descents.{ArePassed, none_passed, one_passed}
use Rattle.parser.specs.Machine.{plain_of}
use Rattle.definitions.specs.TreeEdits.{plain}
use Rattle.definitions.specs.Trees.{IsTree}
use Rattle.trees.specs.Cells.{tree}
use Rattle.trees.specs.declared.store.Child.{Child}
use Rattle.states.proofs.pile.Pile.enter.Goals as goal

pub loop-child-init : goal.loop-child-init
loop-child-init c = (
  refl,
  none_passed c.args.self.now.tables c.args.store.now c.args.children c.args.place c.args.self.now.states c.into_iter-child-iterator.result
      c.into_iter-child-iterator.ensures.into_iter_gives c.requires.trees.0 c.requires.trees.1 c.requires.below,
)

pub push_tree-requires-clause-states : goal.push_tree-requires-clause-states
push_tree-requires-clause-states c =
    let stack = c.requires.states.0 ++ plain_of c.args.store.now c.loop-child.invariant.1.passed in
    (stack, subst (λ t. HasStates t stack c.loop-child.self.states) (sym c.loop-child.invariant.0) (c.loop-child.invariant.1.states c.requires.states.0 c.requires.states.1))

pub loop-child-preserved : goal.loop-child-preserved
loop-child-preserved c =
    let t = c.args.self.now.tables in
    let next : c.loop-child.child-iterator ≡ c.in-Some.child ∷ c.next.new.self = c.in-Some.ensures.steps in
    let before = subst (λ (cs : List Child). ArePassed t c.args.store.now c.args.children c.args.place c.args.self.now.states c.loop-child.self.states
    c.loop-child.left cs) next c.loop-child.invariant.1 in (
      c.in_ok-push_tree.ensures.tables ∙ c.loop-child.invariant.0,
      one_passed t c.args.store.now c.args.children c.args.place c.args.self.now.states c.loop-child.self.states c.loop-child.left
          c.in-Some.child c.next.new.self before c.push_tree.new.self.states c.tokens_of-count.result (c.loop-child.left - c.tokens_of-count.result)
          (omega (arith, c.tokens_of-count.ensures, c.if-left-count.false, c.loop-child.invariant.1.counted, c.requires.few))
          (λ stack s has is.
          subst (λ u. HasStates u stack c.loop-child.self.states → IsTree u.grammar (plain (tree c.args.store.now c.in-Some.child)) s
          → c.in_ok-push_tree.field-0 ≡ true → HasStates u (stack ++ plain (tree c.args.store.now c.in-Some.child) ∷ []) c.push_tree.new.self.states)
          c.loop-child.invariant.0 (c.in_ok-push_tree.ensures.pushed stack s) has is c.if-not-branch.false),
    )
