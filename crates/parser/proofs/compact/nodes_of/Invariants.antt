use Rattle.parser.proofs.Std.{◌≡◌, ◌++◌, drop}
use Rattle.parser.proofs.Common.{node_ids}
use Rattle.parser.proofs.compact.nodes_of.Given as goal

abbrev pub invariant-loop-child : goal.invariant-loop-child
invariant-loop-child l = l.ids.items ++ node_ids (drop l.child-index l.children) ≡ node_ids l.children
