use Rattle.parser.proofs.Std.{◌+◌, ◌∷◌, ◌++◌, [], length, drop, refl, sym, ◌∙◌, subst}
use Rattle.parser.proofs.Common.{Nonterminal, IsTree, yield, plain, Node, tree, plain_of, IsAction, IsStateOf}
use Rattle.parser.proofs.Moves.{top_stands}
use Rattle.parser.proofs.Reusing.{tree_left, no_goto, no_action, can_reuse, goes, look_drop, some_is, none_is}
use Rattle.parser.proofs.machine.Machine.passes.Goals.{After-production-root, In-Some}
use Rattle.parser.proofs.machine.Machine.passes.Goals as goal

-- the root of the node's tree
root : (g : _) (c : After-production-root g) → IsTree c.args.tables.now.grammar (plain (tree c.args.store.now (Node c.args.id))) (Nonterminal c.production-root.result.0)
root g c =
    let s = tree c.args.store.now (Node c.args.id) in
    let made = c.production.ensures.tree in
    tree_left c.args.tables.now.grammar (plain s) s c.production.result made.0 made.1 refl made.2 c.requires.root.0 c.requires.root.1
    c.production-root.result.0 c.production-root.ensures.0 c.production-root.ensures.1

-- the state after it
there : (g : _) (c : In-Some g) → IsStateOf c.args.tables.now (c.requires.states.symbols ++ (Nonterminal c.production-root.result.0 ∷ [])) c.in-Some.next
there g c =
    let h = c.requires.states in
    (c.in-Some.ensures h.symbols (subst (IsStateOf c.args.tables.now h.symbols) (sym c.state.ensures)
    (top_stands c.args.tables.now (plain_of c.args.store.now c.args.self.now.stack.items) c.args.self.now.states.items h))).1

pub returns-in_default-clause-is : goal.returns-in_default-clause-is
returns-in_default-clause-is g c =
    let t = c.args.tables.now in
    let stack = plain_of c.args.store.now c.args.self.now.stack.items in
    let u = plain (tree c.args.store.now (Node c.args.id)) in
    no_goto t stack c.args.self.now.states.items c.requires.states u c.production-root.result.0 (root g (goal.at.returns-in_default-clause-is g c).After-production-root) _
    (λ prefix k i. c.in_default.ensures prefix (subst (IsStateOf t prefix) (sym c.state.ensures) k) i)

pub returns-then-is_some-clause-is : goal.returns-then-is_some-clause-is
returns-then-is_some-clause-is g c =
    let at = goal.at.returns-then-is_some-clause-is g c in
    let t = c.args.tables.now in
    let kinds = c.args.kinds.now in
    let stack = plain_of c.args.store.now c.args.self.now.stack.items in
    let states = c.args.self.now.states.items in
    let h = c.requires.states in
    let u = plain (tree c.args.store.now (Node c.args.id)) in
    let end = c.args.self.now.read + length (yield u) in
    let left = c.production-root.result.0 in
    let is = root g at.After-production-root in
    let next = there g at.In-Some in
    let some = some_is c.action.result (sym c.is_some.ensures ∙ c.if-is_some.true) in
    let act = subst (IsAction t.grammar (h.symbols ++ (Nonterminal left ∷ [])) c.kind_after-look.result) some.1 (c.action.ensures.is (h.symbols ++ (Nonterminal left ∷ [])) next) in
    record {
      left = left;
      is = is;
      goes = goes t stack states h u left is c.in-Some.next next;
      can = can_reuse t stack states h u left is (drop end kinds) c.kind_after-look.result some.0 (c.kind_after-look.ensures.is ∙ look_drop kinds end) c.requires.not_empty act;
    }

pub returns-else-is_some-clause-is : goal.returns-else-is_some-clause-is
returns-else-is_some-clause-is g c =
    let at = goal.at.returns-else-is_some-clause-is g c in
    let t = c.args.tables.now in
    let kinds = c.args.kinds.now in
    let h = c.requires.states in
    let u = plain (tree c.args.store.now (Node c.args.id)) in
    let end = c.args.self.now.read + length (yield u) in
    let left = c.production-root.result.0 in
    let none = none_is c.action.result (sym c.is_some.ensures ∙ c.if-is_some.false) in
    let act = subst (IsAction t.grammar (h.symbols ++ (Nonterminal left ∷ [])) c.kind_after-look.result) none (c.action.ensures.is (h.symbols ++ (Nonterminal left ∷ [])) (there g at.In-Some)) in
    no_action t (plain_of c.args.store.now c.args.self.now.stack.items) c.args.self.now.states.items h u left (root g at.After-production-root)
    (drop end kinds) c.kind_after-look.result (c.kind_after-look.ensures.is ∙ look_drop kinds end) act
