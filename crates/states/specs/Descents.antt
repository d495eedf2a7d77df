-- What is known on the way from the root of a tree down to one of its tokens.
use Rattle.std.specs.Prelude.{◌≡◌, ℕ, ◌+◌, ◌<◌, List, ◌∷◌, ◌++◌, length}
use Rattle.definitions.specs.declared.Kind.{Kind}
use Rattle.definitions.specs.Settled.{Way}
use Rattle.definitions.specs.Trees.{Tree, all_kinds, yield}
use Rattle.definitions.specs.TreeEdits.{plain}
use Rattle.parser.specs.Machine.{HasStates, plain_of}
use Rattle.tables.specs.Tables.{Sets}
use Rattle.trees.specs.Cells.{Cell, tree}
use Rattle.trees.specs.declared.store.Child.{Child}
use Rattle.states.specs.declared.descent.Inside.{Inside}

-- these children are passed over up to one of them, which has the token at their place `place`, and the states after those before it have
-- come onto the old ones
pub record IsEntered (t : Sets) (cells : List Cell) (children : List Child) (place : ℕ) (old new : List ℕ) (inside : Inside) : Type 0 where
  pub passed : List Child
  pub left : List Child
  pub split : children ≡ passed ++ inside.child ∷ left
  pub states : (stack : List Tree) → HasStates t stack old → HasStates t (stack ++ plain_of cells passed) new
  pub counted : length (all_kinds (plain_of cells passed)) + inside.place ≡ place
  pub within : inside.place < length (yield (plain (tree cells inside.child)))

-- `AreWays whole cells children`: with the trees of the children before it, each way to a leaf of one of them is a way in the tree `whole`
abbrev pub AreWays : Tree → List Cell → List Child → Type 0
AreWays whole cells children =
    (passed : List Child) (c : Child) (left : List Child) → children ≡ passed ++ c ∷ left → (ls : List Tree) (k : Kind) (after : List Kind)
    → Way (plain (tree cells c)) ls k after → (later : List Kind) × Way whole (plain_of cells passed ++ ls) k later
