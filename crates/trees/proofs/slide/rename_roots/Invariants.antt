use Rattle.trees.proofs.Std.{◌≡◌, ◌++◌, drop, length, map, take}
use Rattle.trees.proofs.Common.{nodes, renamed}
use Rattle.trees.proofs.slide.rename_roots.Given as goal

abbrev pub invariant-loop-root : goal.invariant-loop-root
invariant-loop-root l = record {
  long : length l.roots ≡ length l.fn.roots;
  rest : drop l.root-index l.roots ≡ drop l.root-index l.fn.roots;
  done : nodes (take l.root-index l.roots) ++ map (renamed l.fn.ranks) (nodes (drop l.root-index l.roots)) ≡ map (renamed l.fn.ranks) (nodes l.fn.roots);
}
