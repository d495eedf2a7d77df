use Rattle.trees.proofs.Std.{refl}
use Rattle.trees.proofs.Cells.{below-at}
use Rattle.trees.proofs.store.Store.counts.Goals as goal

pub tokens_of-requires : goal.tokens_of-requires
tokens_of-requires c = below-at _ c.args.children.now c.loop-child.child-index _ _ c.requires c.loop-child-test.true refl

pub size_of-requires : goal.size_of-requires
size_of-requires c = below-at _ c.args.children.now c.loop-child.child-index _ _ c.requires c.loop-child-test.true refl
