-- What a parse says of the kinds that it was made of.
use Rattle.std.specs.Prelude.{◌≡◌, ℕ, ◌+◌, ◌-◌, ◌<◌, ◌≤◌, ◌==◌, if◌then◌else◌, List, [], ◌∷◌, ◌++◌, length, take, slice_index_or, Option}
use Rattle.definitions.specs.declared.Kind.{Kind}
use Rattle.definitions.specs.declared.Symbol.{Symbol}
use Rattle.definitions.specs.Trees.{Grammar, Tree, Leaf, HaveRoots}
use Rattle.definitions.specs.Nodes.{all_branches}
use Rattle.definitions.specs.TreeEdits.{Stamped, StampedBranch, StampedCons, StampedForest, StampedIn, StampedLeaf, StampedNil, plain}
use Rattle.definitions.specs.Sentences.{IsVerdict}
use Rattle.definitions.specs.Sentences.{Verdict as Answer, HasTree, FaultAt, FaultAtEnd}
use Rattle.definitions.specs.DocumentNodes.{AreDocumentTrees}
use Rattle.trees.specs.declared.store.Child.{Child}
use Rattle.trees.specs.declared.store.Child.TheVariants.{Node, Token}
use Rattle.trees.specs.Cells.{Cell, AreBelow, all_trees, most, tree}
use Rattle.tables.specs.Expected.{AreExpected}
use Rattle.tables.specs.Tables.{Sets, IsStateOf}
use Rattle.parser.specs.declared.parse.Verdict.{Verdict}
use Rattle.parser.specs.declared.parse.Verdict.TheVariants.{Tree as TreeAt, FaultAt as StopsAt, FaultAtEnd as StopsAtEnd}
use Rattle.parser.specs.declared.machine.Halt.{Halt}
use Rattle.parser.specs.declared.machine.Halt.TheVariants.{Accepted, FaultAt as HaltsAt, FaultAtEnd as HaltsAtEnd}
use Rattle.parser.specs.Machine.{plain_of}

-- what callers see of a parse: the verdict, the stack, the state, how many branches the stack has and how many of them the last edit built,
-- and that edit's number
pub record Stop : Type 0 where
  pub verdict : Verdict
  pub stack : List Child
  pub state : ℕ
  pub branches : ℕ
  pub built : ℕ
  pub number : ℕ

-- `verdict_of halt stack`: the verdict of a machine that stopped so, with this stack. Where it has accepted, the tree is the stack's first,
-- which is never a token
abbrev pub verdict_of : Halt → List Child → Verdict
verdict_of Accepted (Node id ∷ cs) = TreeAt id
verdict_of Accepted (Token k ∷ cs) = StopsAtEnd
verdict_of Accepted [] = StopsAtEnd
verdict_of (HaltsAt k) cs = StopsAt k
verdict_of HaltsAtEnd cs = StopsAtEnd

-- `verdict_in cells v`: an answer of the code as a `Verdict` of the definitions, its tree in this store
abbrev pub verdict_in : List Cell → Verdict → Answer
verdict_in cells (TreeAt id) = HasTree (plain (tree cells (Node id)))
verdict_in cells (StopsAt k) = FaultAt k
verdict_in cells StopsAtEnd = FaultAtEnd

-- `before_fault kinds v`: the kinds before a fault, and none where there is a tree
abbrev pub before_fault : List Kind → Answer → List Kind
before_fault kinds (HasTree t) = []
before_fault kinds (FaultAt k) = take k kinds
before_fault kinds FaultAtEnd = kinds

-- `last_leaf kinds`: the last kind as a tree, if there is one
abbrev pub last_leaf : List Kind → List Tree
last_leaf [] = []
last_leaf (k ∷ []) = Leaf k ∷ []
last_leaf (j ∷ k ∷ x) = last_leaf (k ∷ x)

-- the trees of a document with this verdict, and after them the last kind before a fault
pub record AreStacked (g : Grammar) (kinds : List Kind) (v : Answer) (stack : List Tree) : Type 0 where
  pub trees : List Tree
  pub are : AreDocumentTrees g kinds v trees
  pub stack_is : stack ≡ trees ++ last_leaf (before_fault kinds v)

-- `IsStop t kinds cells v stack state`: the machine stops on these kinds as it should, with this verdict, this stack and this state; the
-- verdict's tree is the stack's first
pub record IsStop (t : Sets) (kinds : List Kind) (cells : List Cell) (v : Verdict) (children : List Child) (top : ℕ) : Type 0 where
  pub below : AreBelow (length cells) children
  pub verdict : IsVerdict t.grammar kinds (verdict_in cells v)
  pub stack : AreStacked t.grammar kinds (verdict_in cells v) (plain_of cells children)
  pub root : (halt : Halt) × (v ≡ verdict_of halt children)
  pub roots : List Symbol
  pub are_roots : HaveRoots t.grammar (plain_of cells children) roots
  pub state : IsStateOf t roots top

abbrev mutual
  -- `branches_by number t`: how many branches of a stamped tree the edit of this number made
  pub branches_by : ℕ → Stamped → ℕ
  branches_by number (StampedLeaf k) = 0
  branches_by number (StampedBranch p born ts) = (if born == number then 1 else 0) + branches_of_by number ts

  -- `branches_of_by number f`: how many branches of a `StampedForest` the edit of this number made
  pub branches_of_by : ℕ → StampedForest → ℕ
  branches_of_by number StampedNil = 0
  branches_of_by number (StampedCons t ts) = branches_by number t + branches_of_by number ts

-- `all_branches_by number ts`: how many branches of a list of stamped trees the edit of this number made
abbrev pub all_branches_by : ℕ → List Stamped → ℕ
all_branches_by number [] = 0
all_branches_by number (t ∷ ts) = branches_by number t + all_branches_by number ts

-- `AreUpTo number trees`: no branch of these trees was made by a later edit
abbrev pub AreUpTo : ℕ → List Stamped → Type 0
AreUpTo number ts = (lefts : List Tree) (p born : ℕ) (us : StampedForest) → StampedIn ts lefts p born us → born ≤ number

-- this is the parse by the tables `t` of these kinds, with its nodes in these cells, none of them newer than its edit; there are no more
-- kinds than 64 bits can count
pub record IsParseOf (t : Sets) (kinds : List Kind) (cells : List Cell) (parse : Stop) : Type 0 where
  pub stop : IsStop t kinds cells parse.verdict parse.stack parse.state
  pub branches : parse.branches ≡ all_branches (plain_of cells parse.stack)
  pub built : parse.built ≡ all_branches_by parse.number (all_trees cells parse.stack)
  pub older : AreUpTo parse.number (all_trees cells parse.stack)
  pub countable : length kinds ≤ most

-- the machine has stopped with this stack, under the last of these states
abbrev pub IsStoppedAt : Sets → List Kind → List Cell → Verdict → List Child → List ℕ → Type 0
IsStoppedAt t kinds cells v stack states = (0 < length states) × IsStop t kinds cells v stack (slice_index_or states (length states - 1) 0)

-- `AreExpectedAt g kinds v looks`: at a fault the kinds that may follow those before it (`AreExpected`); nothing where there is a tree
abbrev pub AreExpectedAt : Grammar → List Kind → Answer → List (Option ℕ) → Type 0
AreExpectedAt g kinds (HasTree t) looks = looks ≡ []
AreExpectedAt g kinds (FaultAt k) looks = AreExpected g (take k kinds) looks
AreExpectedAt g kinds FaultAtEnd looks = AreExpected g kinds looks
