-- The stamps that an edit leaves, and the nodes that it adds.
use Rattle.std.specs.Prelude.{◌≡◌, ◌≢◌, ℕ, ◌<◌, ◌==◌, if◌then◌else◌, List, [], ◌∷◌, ◌++◌, length, drop}
use Rattle.definitions.specs.Trees.{Tree, Branch, yields}
use Rattle.definitions.specs.Nodes.{place_of}
use Rattle.definitions.specs.TokenEdits.{Splice}
use Rattle.definitions.specs.TreeEdits.{IsMoved, LiesInKept, Stamped, StampedLeaf, StampedBranch, StampedForest, StampedNil}
use Rattle.definitions.specs.TreeEdits.{StampedCons, StampedIn, plain_all, plain_trees}
use Rattle.trees.specs.Cells.{Cell, trees_from}

-- `AreOlder number trees`: each branch of these trees was made by an edit of a lower number
abbrev pub AreOlder : ℕ → List Stamped → Type 0
AreOlder number ts = (lefts : List Tree) (p born : ℕ) (us : StampedForest) → StampedIn ts lefts p born us → born < number

-- each branch of nonempty yield that doesn't carry the number `n` stood in the old trees, at a place that the splice moves to its own, with
-- the same stamps throughout
abbrev pub KeepStamps : ℕ → Splice → List Stamped → List Stamped → Type 0
KeepStamps n s old new =
    (lefts : List Tree) (p born : ℕ) (us : StampedForest)
    → StampedIn new lefts p born us → born ≢ n → 0 < length (yields (plain_all us))
    → (at : List Tree) × StampedIn old at p born us × IsMoved s (place_of at) (place_of lefts)

-- each branch lies in a kept node where it doesn't carry the number `n`, and in none where it does
abbrev pub StampsKept : ℕ → Splice → List Tree → List Stamped → Type 0
StampsKept n s old new =
    (below : List Tree) (p born : ℕ) (us : StampedForest) → StampedIn new below p born us
    → let lies = LiesInKept s old (plain_trees new) below (Branch p (plain_all us)) in (born ≡ n → ¬ lies) × (born ≢ n → lies)

abbrev mutual
  -- `numbered n t`: the branches of a stamped tree that carry the number, each after those below it
  pub numbered : ℕ → Stamped → List Stamped
  numbered n (StampedLeaf k) = []
  numbered n (StampedBranch p born ts) = numbered_in n ts ++ (if born == n then StampedBranch p born ts ∷ [] else [])

  -- `numbered_in n f`: the branches of a `StampedForest` that carry the number, each after those below it
  pub numbered_in : ℕ → StampedForest → List Stamped
  numbered_in n StampedNil = []
  numbered_in n (StampedCons t ts) = numbered n t ++ numbered_in n ts

-- `all_numbered n ts`: the branches of a list of stamped trees that carry the number, each after those below it
abbrev pub all_numbered : ℕ → List Stamped → List Stamped
all_numbered n [] = []
all_numbered n (t ∷ ts) = numbered n t ++ all_numbered n ts

-- `AddsNumbered n old new trees`: the trees that the nodes added to a store mean are these trees' branches that carry the number, in order,
-- and no others
abbrev pub AddsNumbered : ℕ → List Cell → List Cell → List Stamped → Type 0
AddsNumbered n old new ts = drop (length old) (trees_from [] new) ≡ all_numbered n ts
