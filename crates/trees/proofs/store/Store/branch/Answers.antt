use Rattle.trees.proofs.Std.{[], ◌∷◌, ◌≡◌, ◌++◌, ap, sym, ◌∙◌, subst, refl, rules}
use Rattle.trees.proofs.Common.{Cell, tree, IsStore, Node, NodeId}
use Rattle.trees.proofs.Cells.{cell_made, cells-push, grown-new, grown-tree}
use Rattle.trees.proofs.store.Store.branch.Goals as goal

pub invariant_of-self-2 : goal.invariant_of-self-2
invariant_of-self-2 c =
    let cell : Cell = record { production = c.args.production; born = c.args.born; tokens = c.counts-tokens.result.0; size = c.counts-tokens.result.1; children = c.args.children.now } in
    let e : c.push.new.self.items ≡ c.self.inside.nodes.items ++ (cell ∷ []) = c.in_ok-push.ensures.items ∙ ap (λ n. c.self.inside.nodes.items ++ (n ∷ [])) c.in_ok-node.ensures in
    let made = cell_made c.self.inside.nodes.items cell c.args.children.now refl (rw c.self.view_is c.requires)
    (rw c.self.view_is c.counts-tokens.ensures.tokens) (rw c.self.view_is c.counts-tokens.ensures.size) in
    subst IsStore (sym e) (cells-push [] c.self.inside.nodes.items cell c.self.invariant made)

pub returns-clause-tree : goal.returns-clause-tree
returns-clause-tree c =
    let cell : Cell = record { production = c.args.production; born = c.args.born; tokens = c.counts-tokens.result.0; size = c.counts-tokens.result.1; children = c.args.children.now } in
    let e : c.push.new.self.items ≡ c.args.self.now ++ (cell ∷ []) = c.in_ok-push.ensures.items
    ∙ ap (λ n. c.self.inside.nodes.items ++ (n ∷ [])) c.in_ok-node.ensures ∙ ap (λ l. l ++ (cell ∷ [])) c.self.view_is in
    let id : NodeId = record { index = c.len-index.result } in
    ap (λ l. tree l (Node id)) e ∙ grown-new c.args.self.now cell id c.len-index.ensures.is

pub returns-clause-kept : goal.returns-clause-kept
returns-clause-kept c =
    let cell : Cell = record { production = c.args.production; born = c.args.born; tokens = c.counts-tokens.result.0; size = c.counts-tokens.result.1; children = c.args.children.now } in
    let e : c.push.new.self.items ≡ c.args.self.now ++ (cell ∷ []) = c.in_ok-push.ensures.items
    ∙ ap (λ n. c.self.inside.nodes.items ++ (n ∷ [])) c.in_ok-node.ensures ∙ ap (λ l. l ++ (cell ∷ [])) c.self.view_is in
    λ child h. ap (λ l. tree l child) e ∙ grown-tree c.args.self.now cell child h

pub returns-clause-ok : goal.returns-clause-ok
returns-clause-ok c = search rules
