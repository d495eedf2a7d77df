use Rattle.trees.proofs.Std.{[], ap, sym, ◌∙◌, subst}
use Rattle.trees.proofs.Common.{AreBelow, trees_from, forest_of, StampedBranch}
use Rattle.trees.proofs.Cells.{seen_at}
use Rattle.trees.proofs.store.Store.children.Goals as goal

pub returns-clause-below : goal.returns-clause-below
returns-clause-below c =
    let cell = c.index.result.now in
    let at = seen_at c.self.view_is c.self.invariant c.args.id.index cell c.requires c.index.ensures in
    subst (λ l. AreBelow c.args.id.index l) (sym c.children.ensures) at.inside

pub returns-clause-tree : goal.returns-clause-tree
returns-clause-tree c =
    let cell = c.index.result.now in
    let at = seen_at c.self.view_is c.self.invariant c.args.id.index cell c.requires c.index.ensures in
    (cell.production, cell.born, at.is ∙ ap (λ l. StampedBranch cell.production cell.born (forest_of (trees_from [] c.args.self.now) l)) (sym c.children.ensures))
