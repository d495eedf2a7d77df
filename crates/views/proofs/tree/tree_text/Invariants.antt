use Rattle.views.proofs.Std.{length, string_bytes}
use Rattle.views.proofs.Common.{tree, text_of}
use Rattle.definitions.specs.TreeEdits.{plain}
use Rattle.trees.specs.declared.store.Child.TheVariants.{Node}
use Rattle.views.proofs.Writing.{pending, IsWriting}
use Rattle.views.proofs.tree.tree_text.Given as goal

abbrev pub invariant-loop-children : goal.invariant-loop-children
invariant-loop-children l = IsWriting l.grammar l.store (text_of l.grammar (plain (tree l.store (Node l.fn.root)))) (string_bytes l.text) l.open.items

abbrev pub decreases-loop-children : goal.decreases-loop-children
decreases-loop-children l = length (pending l.grammar l.store l.open.items)
