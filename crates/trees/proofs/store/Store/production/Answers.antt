use Rattle.trees.proofs.Std.{[], ap, sym, ◌∙◌, arith, common_steps}
use Rattle.trees.proofs.Common.{StampedBranch, trees_from, forest_of}
use Rattle.trees.proofs.Cells.{seen_at}
use Rattle.trees.proofs.store.Store.production.Goals as goal

pub returns-clause-tree : goal.returns-clause-tree
returns-clause-tree c =
    let cell = c.index.result.now in
    let at = seen_at c.self.view_is c.self.invariant c.args.id.index cell c.requires c.index.ensures in
    let below = forest_of (trees_from [] c.args.self.now) cell.children in
    (cell.born, below, at.is ∙ ap (λ p. StampedBranch p cell.born below) (sym c.label.ensures.production))

pub returns-clause-is : goal.returns-clause-is
returns-clause-is c = grind (arith, common_steps)
