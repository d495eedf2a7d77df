use Rattle.parser.proofs.Std.{refl}
use Rattle.parser.proofs.Common.{below-at}
use Rattle.parser.proofs.parse.branches_of.Goals as goal

pub size_of-requires : goal.size_of-requires
size_of-requires c = below-at _ c.args.children.now c.loop-child.child-index _ _ c.requires c.loop-child-test.true refl
