use Rattle.states.proofs.Std.{◌++◌, ◌∷◌, [], subst, sym}
use Rattle.states.proofs.Common.{HasStates, IsStateOf, Symbol, Tree, top_stands}
use Rattle.states.proofs.Descents.{pushed}
use Rattle.std.specs.Prelude.{List}
use Rattle.definitions.specs.TreeEdits.{plain}
use Rattle.definitions.specs.Trees.{IsTree}
use Rattle.trees.specs.Cells.{tree}
use Rattle.states.proofs.pile.Pile.push_tree.Goals.{In-Some}
use Rattle.states.proofs.pile.Pile.push_tree.Goals as goal

-- the state after the tree
there : (c : In-Some) (stack : List Tree) (s : Symbol) (has : HasStates c.args.self.now.tables stack c.args.self.now.states)
    → IsTree c.args.self.now.tables.grammar (plain (tree c.args.store.now c.args.child)) s
    → IsStateOf c.args.self.now.tables (has.symbols ++ s ∷ []) c.in-Some.next
there c stack s has is =
    let t = c.args.self.now.tables in
    let top : IsStateOf t has.symbols c.state.result = subst (IsStateOf t has.symbols) (sym c.state.ensures.is) (top_stands t stack c.args.self.now.states has) in
    subst (λ v. IsStateOf v.tables (has.symbols ++ s ∷ []) c.in-Some.next) c.self.view_is
    (c.in-Some.ensures has.symbols s (subst (λ v. IsStateOf v.tables has.symbols c.state.result) (sym c.self.view_is) top)
    (subst (λ v. IsTree v.tables.grammar (plain (tree c.args.store.now c.args.child)) s) (sym c.self.view_is) is))

pub put-requires : goal.put-requires
put-requires c =
    let has = c.requires.states.1 in
    (has.symbols ++ c.requires.tree.0 ∷ [], there (goal.at.put-requires c).In-Some c.requires.states.0 c.requires.tree.0 has c.requires.tree.1)

pub returns-clause-pushed : goal.returns-clause-pushed
returns-clause-pushed c stack s has is _ =
    let t = c.args.self.now.tables in
    subst (HasStates t (stack ++ plain (tree c.args.store.now c.args.child) ∷ [])) (sym c.in_ok-put.ensures.states)
    (pushed t stack c.args.self.now.states has (plain (tree c.args.store.now c.args.child)) s c.in-Some.next is
    (there (goal.at.returns-clause-pushed c).In-Some stack s has is))
