use Rattle.parser.proofs.Std.{◌≡◌, ◌≤◌, ◌++◌, drop, length, take}
use Rattle.parser.proofs.Common.{node_ids, renamed}
use Rattle.parser.proofs.compact.rename.Given as goal

abbrev pub invariant-loop-child : goal.invariant-loop-child
invariant-loop-child l = record {
  long : length l.children ≡ length l.fn.children;
  done : take l.child-index l.children ++ renamed (drop l.child-index l.children) l.left ≡ renamed l.fn.children l.fn.names;
  room : length (node_ids (drop l.child-index l.children)) ≤ length l.left;
}
