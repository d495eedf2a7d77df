-- A parse whose store is compacted.
use Rattle.std.specs.Prelude.{◌≡◌, ℕ, ◌+◌, ◌*◌, List, [], ◌∷◌, length, take}
use Rattle.trees.specs.declared.store.NodeId.{NodeId}
use Rattle.trees.specs.declared.store.Child.{Child}
use Rattle.trees.specs.declared.store.Child.TheVariants.{Token, Node}
use Rattle.trees.specs.Cells.{Cell, AreBelow, all_trees}
use Rattle.parser.specs.declared.machine.Halt.{Halt}
use Rattle.parser.specs.Parses.{Stop, verdict_in, verdict_of}

-- how many nodes a store may have for a parse of so many branches: `2 * branches + 1024`
abbrev pub bound : ℕ → ℕ
bound branches = 2 * branches + 1024

-- a store has `n` nodes more, after the old ones
abbrev pub IsLonger : List Cell → ℕ → List Cell → Type 0
IsLonger old n new = (take (length old) new ≡ old) × (length new ≡ length old + n)

-- a parse whose store was compacted is the same under other names
pub record IsSameParse (old : List Cell) (p : Stop) (new : List Cell) (q : Stop) : Type 0 where
  pub trees : all_trees new q.stack ≡ all_trees old p.stack
  pub below : AreBelow (length new) q.stack
  pub verdict : verdict_in new q.verdict ≡ verdict_in old p.verdict
  pub root : (halt : Halt) × (q.verdict ≡ verdict_of halt q.stack)
  pub state : q.state ≡ p.state
  pub branches : q.branches ≡ p.branches
  pub built : q.built ≡ p.built
  pub number : q.number ≡ p.number

-- the nodes among children
abbrev pub node_ids : List Child → List NodeId
node_ids [] = []
node_ids (Token k ∷ cs) = node_ids cs
node_ids (Node id ∷ cs) = id ∷ node_ids cs

-- `renamed cs names`: children with these names in place of their nodes
abbrev pub renamed : List Child → List NodeId → List Child
renamed [] names = []
renamed (Token k ∷ cs) names = Token k ∷ renamed cs names
renamed (Node id ∷ cs) [] = Node id ∷ renamed cs []
renamed (Node id ∷ cs) (name ∷ names) = Node name ∷ renamed cs names
