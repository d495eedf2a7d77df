use Rattle.trees.proofs.Std.{◌≡◌, ◌++◌, drop, length, map, take}
use Rattle.trees.proofs.Common.{renamed}
use Rattle.trees.proofs.node.rename_children.Given as goal

abbrev pub invariant-loop-child : goal.invariant-loop-child
invariant-loop-child l = record {
  long : length l.children ≡ length l.fn.children;
  rest : drop l.child-index l.children ≡ drop l.child-index l.fn.children;
  done : take l.child-index l.children ++ map (renamed l.fn.names) (drop l.child-index l.children) ≡ map (renamed l.fn.names) l.fn.children;
}
