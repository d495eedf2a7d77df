use Rattle.trees.proofs.Std.{◌≡◌, map, take}
use Rattle.trees.proofs.Common.{unpack}
use Rattle.trees.proofs.node.pack_many.Given as goal

abbrev pub invariant-loop-child : goal.invariant-loop-child
invariant-loop-child l = map unpack l.packed.items ≡ take l.child-index l.children
