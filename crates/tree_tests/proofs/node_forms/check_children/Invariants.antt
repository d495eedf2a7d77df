use Rattle.std.proofs.Common.{length}
use Rattle.trees.specs.Cells.{AreBelow}
use Rattle.tree_tests.proofs.node_forms.check_children.Given as goal

-- where those that are left are in the store, all are
abbrev pub invariant-loop-child : goal.invariant-loop-child
invariant-loop-child g l = AreBelow (length l.store) l.child-iterator → AreBelow (length l.store) l.fn.children
