use Rattle.trees.proofs.Std.{ap, sym, subst, ◌∙◌, slice_get, IfSome}
use Rattle.trees.proofs.Common.{IsBelow}
use Rattle.trees.proofs.Cells.{below-get, seen_at}
use Rattle.trees.proofs.store.Store.child.Goals as goal

pub returns-clause-below : goal.returns-clause-below
returns-clause-below c =
    let cell = c.index.result.now in
    let at = seen_at c.self.view_is c.self.invariant c.args.id.index cell c.requires c.index.ensures in
    subst (λ r. IfSome r (IsBelow c.args.id.index)) (sym (c.get.ensures ∙ ap (λ l. slice_get l c.args.k) c.children.ensures)) (below-get c.args.id.index cell.children c.args.k at.inside)

pub returns-clause-tree : goal.returns-clause-tree
returns-clause-tree c =
    let cell = c.index.result.now in
    let at = seen_at c.self.view_is c.self.invariant c.args.id.index cell c.requires c.index.ensures in
    (cell.production, cell.born, cell.children, at.is, c.get.ensures ∙ ap (λ l. slice_get l c.args.k) c.children.ensures)
