use Rattle.trees.proofs.Std.{[], ◌≡◌, take, sym, ap, ◌∙◌, subst, rules}
use Rattle.trees.proofs.Common.{IsStore, tree}
use Rattle.trees.proofs.Cells.{cells-take, take-tree}
use Rattle.trees.proofs.store.Store.truncate.Goals as goal

pub invariant_of-self : goal.invariant_of-self
invariant_of-self c =
    let e : c.truncate.new.self.items ≡ take c.args.n c.self.inside.nodes.items = c.truncate.ensures.items in
    subst IsStore (sym e) (cells-take [] c.args.n c.self.inside.nodes.items c.self.invariant)

pub returns-clause-kept : goal.returns-clause-kept
returns-clause-kept c =
    let e : c.truncate.new.self.items ≡ take c.args.n c.args.self.now = c.truncate.ensures.items ∙ ap (take c.args.n) c.self.view_is in
    λ child h. ap (λ l. tree l child) e ∙ take-tree c.args.self.now c.args.n child h

pub returns-clause-cells : goal.returns-clause-cells
returns-clause-cells c = search rules

pub returns-clause-count : goal.returns-clause-count
returns-clause-count c = search rules
