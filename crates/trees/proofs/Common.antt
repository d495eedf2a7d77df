-- What the proofs of this crate cite of definitions, of types and of the repository's crates, passed on from one place. Declares nothing.
pub use Rattle.definitions.specs.Nodes.{all_branches, branches, branches_of}
pub use Rattle.definitions.specs.TreeEdits.{Stamped, StampedBranch, StampedCons, StampedLeaf, plain, plain_all, plain_trees}
pub use Rattle.definitions.specs.Trees.{yield, yields}
pub use Rattle.definitions.specs.declared.Kind.TheVariants.{Invalid, Rule}
pub use Rattle.trees.specs.Cells.{AreBelow, AreCells, Cell, IsBelow, IsCell, IsStore, all_trees, blank, branch_of, branches_below, forest_in, forest_of, most, tokens_below, tree, tree_of, trees_from, trees_of}
pub use Rattle.trees.specs.Compaction.{nodes, sizes}
pub use Rattle.trees.specs.Packing.{unpack}
pub use Rattle.trees.specs.Slides.{AreMarked, AreRanks, IsClosed, IsClosedFrom, IsMarked, mark_all, owed, rank, renamed}
pub use Rattle.trees.specs.declared.store.Child.{Child}
pub use Rattle.trees.specs.declared.store.Child.TheVariants.{Node, Token}
pub use Rattle.trees.specs.declared.store.NodeId.{NodeId}
