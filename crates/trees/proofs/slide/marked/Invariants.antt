use Rattle.trees.proofs.Std.{◌≡◌, ◌+◌, ◌≤◌, [], drop, length, take}
use Rattle.trees.proofs.Common.{nodes, sizes, trees_from, owed, AreMarked}
use Rattle.trees.proofs.slide.marked.Given as goal

abbrev pub invariant-loop-root : goal.invariant-loop-root
invariant-loop-root l = record {
  long : length l.marks.items ≡ length l.fn.stored;
  marked : AreMarked l.marks.items (nodes (take l.root-index l.fn.roots));
  few : owed (length l.fn.stored) (trees_from [] l.fn.stored) l.marks.items + sizes l.fn.stored (nodes (drop l.root-index l.fn.roots)) ≤ sizes l.fn.stored (nodes l.fn.roots);
}
