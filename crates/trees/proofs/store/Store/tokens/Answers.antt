use Rattle.trees.proofs.Std.{[], ap, sym, ◌∙◌, min, length}
use Rattle.trees.proofs.Common.{yield, plain, most, trees_from, forest_of}
use Rattle.trees.proofs.Cells.{seen_at}
use Rattle.trees.proofs.store.Store.tokens.Goals as goal

pub returns-clause-is : goal.returns-clause-is
returns-clause-is c =
    let cell = c.index.result.now in
    let at = seen_at c.self.view_is c.self.invariant c.args.id.index cell c.requires c.index.ensures in
    c.label.ensures.tokens ∙ at.cell.tokens ∙ ap (λ t. min most (length (yield (plain t)))) (sym at.is)

pub returns-clause-tree : goal.returns-clause-tree
returns-clause-tree c =
    let cell = c.index.result.now in
    let at = seen_at c.self.view_is c.self.invariant c.args.id.index cell c.requires c.index.ensures in
    (cell.production, cell.born, forest_of (trees_from [] c.args.self.now) cell.children, at.is)
