use Rattle.trees.proofs.Std.{ap, sym, ◌∙◌, min}
use Rattle.trees.proofs.Common.{branches, plain, most}
use Rattle.trees.proofs.Cells.{seen_at}
use Rattle.trees.proofs.store.Store.size.Goals as goal

pub returns : goal.returns
returns c =
    let cell = c.index.result.now in
    let at = seen_at c.self.view_is c.self.invariant c.args.id.index cell c.requires c.index.ensures in
    c.label.ensures.size ∙ at.cell.size ∙ ap (λ t. min most (branches (plain t))) (sym at.is)
