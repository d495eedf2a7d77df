use Rattle.parser.proofs.Std.{ap, sym, subst, ◌∙◌, length, arith}
use Rattle.parser.proofs.Common.{AreBelow, all_trees, nodes, sizes}
use Rattle.parser.proofs.Renaming.{as_many, ids_below, ids_sizes, renamed_below, renamed_trees}
use Rattle.parser.proofs.compact.keep.Goals as goal

pub compact-requires : goal.compact-requires
compact-requires c = subst (λ ids. AreBelow (length c.args.store.now) (nodes ids)) (sym c.requires.ids) (ids_below (length c.args.store.now) c.args.children.now c.requires.below)

pub rename-requires : goal.rename-requires
rename-requires c = omega (arith, as_many c.args.store.now c.compact.new.self c.compact.new.roots c.args.ids.now c.in_ok-compact.ensures.trees, ap length c.requires.ids)

pub returns-clause-trees : goal.returns-clause-trees
returns-clause-trees c =
    ap (all_trees c.compact.new.self) c.rename.ensures
    ∙ renamed_trees c.args.store.now c.compact.new.self c.args.children.now c.compact.new.roots (c.in_ok-compact.ensures.trees ∙ ap (λ ids. all_trees c.args.store.now (nodes ids)) c.requires.ids)

pub returns-clause-below : goal.returns-clause-below
returns-clause-below c =
    let many = as_many c.args.store.now c.compact.new.self c.compact.new.roots c.args.ids.now c.in_ok-compact.ensures.trees ∙ ap length c.requires.ids in
    subst (AreBelow (length c.compact.new.self)) (sym c.rename.ensures) (renamed_below (length c.compact.new.self) c.args.children.now c.compact.new.roots many c.in_ok-compact.ensures.below)

pub returns-clause-sizes : goal.returns-clause-sizes
returns-clause-sizes c =
    omega (arith, c.in_ok-compact.ensures.sizes, ap (λ is. sizes c.args.store.now (nodes is)) c.requires.ids, ids_sizes c.args.store.now c.args.children.now)
