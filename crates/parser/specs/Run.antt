-- How far a run of the machine over an input of trees has come.
use Rattle.std.specs.Prelude.{◌≡◌, ◌≢◌, ◌↔◌, ℕ, ◌+◌, ◌≤◌, ◌<◌, List, [], length, drop}
use Rattle.definitions.specs.declared.Kind.{Kind}
use Rattle.definitions.specs.Trees.{Grammar, Tree, Branch, all_kinds, yields}
use Rattle.definitions.specs.Nodes.{place_of}
use Rattle.definitions.specs.TokenEdits.{Splice}
use Rattle.definitions.specs.TreeEdits.{IsMoved, Stamped, StampedForest, StampedIn, plain_all}
use Rattle.trees.specs.declared.store.Child.{Child}
use Rattle.trees.specs.Cells.{Cell, AreBelow, all_trees, trees_from}
use Rattle.theory.specs.Reuse.{Goes_on, Ends, Reuses, Takes_token, Makes, MakesAt}
use Rattle.tables.specs.Tables.{Sets}
use Rattle.parser.specs.Machine.{plain_of, HasStates}
use Rattle.parser.specs.declared.machine.Edge.{Edge}
use Rattle.parser.specs.Input.{input_of, BeginsWith, IsInput, IsOpened, Skips}
use Rattle.parser.specs.FirstInput.{Offers, IsOffer}
use Rattle.parser.specs.Parses.{AreUpTo, all_branches_by}
use Rattle.parser.specs.Stamps.{AreOlder, all_numbered}

-- `makes g run`: how many branches a run makes
abbrev pub makes : (g : Grammar) {s i s' i' : List Tree} → Goes_on g s i s' i' → ℕ
makes g Ends = 0
makes g (Reuses t ts f c more) = makes g more
makes g (Takes_token k ts f m more) = makes g more
makes g (Makes s1 f t n r more) = 1 + makes g more

-- `AreStampedBy g run number trees`: of the branches of these trees exactly those that the run makes carry the number
abbrev pub AreStampedBy : (g : Grammar) {s i s' i' : List Tree} → Goes_on g s i s' i' → ℕ → List Stamped → Type 0
AreStampedBy g run number ts = (lefts : List Tree) (p born : ℕ) (us : StampedForest) → StampedIn ts lefts p born us
    → (born ≡ number) ↔ MakesAt g run lefts (Branch p (plain_all us))

-- `ComeFrom old place trees`: each branch of these trees, which begin at this place, is one of the old trees, at the same place
abbrev pub ComeFrom : List Stamped → ℕ → List Stamped → Type 0
ComeFrom old place ts = (lefts : List Tree) (p born : ℕ) (us : StampedForest) → StampedIn ts lefts p born us
    → (at : List Tree) × StampedIn old at p born us × (place_of at ≡ place + place_of lefts)

-- `IsEdge t cells stack kinds read old new edge`: of the old input the trees of no kinds are gone from the start, and its left edge was
-- opened until it offers this; what was there before it was opened is known by its first tree and its length
pub record IsEdge (t : Sets) (cells : List Cell) (stack : List Tree) (kinds : List Kind) (read : ℕ) (old new : List Child) (edge : Edge)
    : Type 0 where
  pub full : List Child
  pub skips : Skips cells old full
  pub first : BeginsWith full edge.first
  pub len : edge.len ≡ length full
  pub input : IsInput t.grammar cells new kinds read
  pub opened : IsOpened full new
  pub offers : Offers t.grammar stack (input_of cells new kinds read) (input_of cells full kinds read)
  pub came : ComeFrom (all_trees cells full) 0 (all_trees cells new)
  pub offer : IsOffer t cells stack kinds read new edge.offer

-- `MoveFrom s old trees`: each branch of nonempty yield is one of the old trees, at a place that the splice moves to its own
abbrev pub MoveFrom : Splice → List Stamped → List Stamped → Type 0
MoveFrom s old ts = (lefts : List Tree) (p born : ℕ) (us : StampedForest) → StampedIn ts lefts p born us
    → 0 < length (yields (plain_all us))
    → (at : List Tree) × StampedIn old at p born us × IsMoved s (place_of at) (place_of lefts)

-- the rest of the input, and the branches of the stack that don't carry the number, were in the input; the nodes added to the store are the
-- others, in the order in which they were made
pub record CameFrom (input : List Stamped) (before number : ℕ) (cells : List Cell) (stack : List Child) (read : ℕ)
    (rest : List Child) : Type 0 where
  pub place : place_of (plain_of cells stack) ≡ read
  pub longer : before ≤ length cells
  pub left : ComeFrom input read (all_trees cells rest)
  pub kept : (lefts : List Tree) (p born : ℕ) (us : StampedForest) → StampedIn (all_trees cells stack) lefts p born us → born ≢ number
      → (at : List Tree) × StampedIn input at p born us × (place_of at ≡ place_of lefts)
  pub added : drop before (trees_from [] cells) ≡ all_numbered number (all_trees cells stack)

-- how far the run has come: from the whole input to this stack and this rest, with one node more in the store for each branch that it made
pub record SoFar (t : Sets) (whole : List Tree) (kinds : List Kind) (before number : ℕ) (cells : List Cell) (stack : List Child)
    (states : List ℕ) (read : ℕ) (rest : List Child) : Type 0 where
  pub has_states : HasStates t (plain_of cells stack) states
  pub below : AreBelow (length cells) stack
  pub within : read ≤ length kinds
  pub whole_is : all_kinds whole ≡ kinds
  pub input : IsInput t.grammar cells rest kinds read
  pub now : List Tree
  pub left : all_kinds now ≡ drop read kinds
  pub offers : (s : List Tree) → Offers t.grammar s (input_of cells rest kinds read) now
  pub top : List Tree
  pub top_is : plain_of cells stack ≡ top
  pub run : Goes_on t.grammar [] whole top now
  pub count : length cells ≡ before + makes t.grammar run
  pub stamps : AreStampedBy t.grammar run number (all_trees cells stack)
  pub made : all_branches_by number (all_trees cells stack) ≡ makes t.grammar run
  pub up_to : AreUpTo number (all_trees cells stack)
  pub older : AreOlder number (all_trees cells rest)

-- a run over the whole input has come to this stack
pub record IsMadeByRun (t : Sets) (whole : List Tree) (kinds : List Kind) (before number : ℕ) (cells : List Cell)
    (stack : List Child) : Type 0 where
  pub states : List ℕ
  pub read : ℕ
  pub rest : List Child
  pub so_far : SoFar t whole kinds before number cells stack states read rest
