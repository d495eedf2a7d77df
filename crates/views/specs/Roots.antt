-- Children of a store that are trees of a grammar.
use Rattle.std.specs.Prelude.{◌≤◌, List, length}
use Rattle.definitions.specs.declared.Symbol.{Symbol}
use Rattle.definitions.specs.Tokens.{Token, kinds}
use Rattle.definitions.specs.TreeEdits.{plain_trees}
use Rattle.definitions.specs.Trees.{HaveRoots, Tree, all_kinds}
use Rattle.grammar.specs.Grammars.{FileGrammar}
use Rattle.trees.specs.declared.store.Child.{Child}
use Rattle.trees.specs.Cells.{AreBelow, Cell, all_trees}

-- the trees that these children mean, without their stamps
abbrev pub trees_of_roots : List Cell → List Child → List Tree
trees_of_roots cells roots = plain_trees (all_trees cells roots)

-- these children are trees of the grammar, and have no more kinds than there are significant tokens
pub record AreRootsOf (file : FileGrammar) (cells : List Cell) (tokens : List Token) (roots : List Child) : Type 0 where
  pub below : AreBelow (length cells) roots
  pub symbols : List Symbol
  pub are_trees : HaveRoots file.grammar (trees_of_roots cells roots) symbols
  pub covered : length (all_kinds (trees_of_roots cells roots)) ≤ length (kinds file.skips tokens)
