-- How far the machine has come.
use Rattle.std.specs.Prelude.{◌≡◌, ℕ, ◌+◌, ◌<◌, List, [], ◌∷◌, ◌++◌, length, take, slice_index_or}
use Rattle.definitions.specs.declared.Symbol.{Symbol}
use Rattle.definitions.specs.Trees.{Tree, HaveRoots}
use Rattle.definitions.specs.TreeEdits.{Stamped, StampedLeaf, StampedBranch, StampedForest, StampedNil, StampedCons, plain_trees}
use Rattle.trees.specs.declared.store.NodeId.{NodeId}
use Rattle.trees.specs.declared.store.Child.{Child}
use Rattle.trees.specs.declared.store.Child.TheVariants.{Node}
use Rattle.trees.specs.Cells.{Cell, IsGrown, all_trees}
use Rattle.tables.specs.Tables.{Sets, IsStateOf}
use Rattle.parser.specs.declared.machine.Machine.{Machine}

-- the trees of children, without their stamps
abbrev pub plain_of : List Cell → List Child → List Tree
plain_of cells cs = plain_trees (all_trees cells cs)

-- each state stands for the roots of the trees below it
pub record HasStates (t : Sets) (stack : List Tree) (states : List ℕ) : Type 0 where
  pub symbols : List Symbol
  pub roots : HaveRoots t.grammar stack symbols
  pub long : length states ≡ length symbols + 1
  pub each : (i : ℕ) → i < length states → IsStateOf t (take i symbols) (slice_index_or states i 0)

-- the machine's states are those of its stack
abbrev pub StandsOn : Sets → List Cell → Machine → Type 0
StandsOn t cells m = HasStates t (plain_of cells m.stack.items) m.states.items

abbrev mutual
  -- `IsMadeBy number t`: every branch of a stamped tree carries this stamp
  pub IsMadeBy : ℕ → Stamped → Type 0
  IsMadeBy number (StampedLeaf k) = Unit {0}
  IsMadeBy number (StampedBranch p born ts) = (born ≡ number) × AreMadeBy number ts

  -- `AreMadeBy number f`: every branch of a `StampedForest` carries this stamp
  pub AreMadeBy : ℕ → StampedForest → Type 0
  AreMadeBy number StampedNil = Unit {0}
  AreMadeBy number (StampedCons t ts) = IsMadeBy number t × AreMadeBy number ts

-- a reduction has made one node, with the number of the edit, over the last trees of the stack
pub record HasMade (old : List Cell) (stack : List Child) (p number : ℕ) (new : List Cell) (stack' : List Child) : Type 0 where
  pub under : List Child
  pub kids : List Child
  pub id : NodeId
  pub stack_is : stack ≡ under ++ kids
  pub stack_is' : stack' ≡ under ++ (Node id ∷ [])
  pub grown : IsGrown old p kids number new id
