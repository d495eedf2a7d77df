-- The nodes of a store, and the trees that they mean.
use Rattle.std.specs.Prelude.{◌≡◌, ℕ, ◌+◌, ◌-◌, ◌^◌, ◌<◌, min, List, [], ◌∷◌, ◌++◌, length, slice_index_or}
use Rattle.definitions.specs.declared.Kind.TheVariants.{Invalid}
use Rattle.definitions.specs.Trees.{yields}
use Rattle.definitions.specs.Nodes.{branches_of}
use Rattle.definitions.specs.TreeEdits.{Stamped, StampedLeaf, StampedBranch, StampedForest, StampedNil, StampedCons, plain_all}
use Rattle.trees.specs.declared.store.NodeId.{NodeId}
use Rattle.trees.specs.declared.store.Child.{Child}
use Rattle.trees.specs.declared.store.Child.TheVariants.{Token, Node}

-- a stored branch: its production, its stamp, how many tokens and branches its tree has, up to the greatest number that is counted, and its
-- children
pub record Cell : Type 0 where
  pub production : ℕ
  pub born : ℕ
  pub tokens : ℕ
  pub size : ℕ
  pub children : List Child

-- what stands past the last node
abbrev pub blank : Cell
blank = record { production = 0; born = 0; tokens = 0; size = 0; children = [] }

-- the greatest count
abbrev pub most : ℕ
most = 2 ^ 64 - 1

-- the node that an id names
abbrev pub cell_of : List Cell → NodeId → Cell
cell_of cells id = slice_index_or cells id.index blank

-- `tree_of ts c`: the stamped tree of a child, where `ts` are those of the nodes so far
abbrev pub tree_of : List Stamped → Child → Stamped
tree_of ts (Token k) = StampedLeaf k
tree_of ts (Node id) = slice_index_or ts id.index (StampedLeaf Invalid)

-- `trees_of ts cs`: the stamped trees of children as a list, where `ts` are those of the nodes so far
abbrev pub trees_of : List Stamped → List Child → List Stamped
trees_of ts [] = []
trees_of ts (c ∷ cs) = tree_of ts c ∷ trees_of ts cs

-- `forest_of ts cs`: the stamped trees of children as a `StampedForest`, where `ts` are those of the nodes so far
abbrev pub forest_of : List Stamped → List Child → StampedForest
forest_of ts [] = StampedNil
forest_of ts (c ∷ cs) = StampedCons (tree_of ts c) (forest_of ts cs)

-- `branch_of ts cell`: the stamped tree of a node, where `ts` are those of the nodes so far
abbrev pub branch_of : List Stamped → Cell → Stamped
branch_of ts c = StampedBranch c.production c.born (forest_of ts c.children)

-- `trees_from ts cells`: the stamped trees that the nodes of a store mean, in order, after those of earlier nodes
abbrev pub trees_from : List Stamped → List Cell → List Stamped
trees_from ts [] = ts
trees_from ts (c ∷ cs) = trees_from (ts ++ (branch_of ts c ∷ [])) cs

-- the stamped tree that a child means in a store
abbrev pub tree : List Cell → Child → Stamped
tree cells c = tree_of (trees_from [] cells) c

-- the stamped trees that children mean in a store, as a `StampedForest`
abbrev pub forest_in : List Cell → List Child → StampedForest
forest_in cells cs = forest_of (trees_from [] cells) cs

-- the stamped trees that children mean in a store, as a list
abbrev pub all_trees : List Cell → List Child → List Stamped
all_trees cells cs = trees_of (trees_from [] cells) cs

-- `IsBelow n c`: the child is a kind, or one of the first `n` nodes
abbrev pub IsBelow : ℕ → Child → Type 0
IsBelow n (Token k) = Unit {0}
IsBelow n (Node id) = id.index < n

-- `AreBelow n cs`: each of the children is a kind, or one of the first `n` nodes
abbrev pub AreBelow : ℕ → List Child → Type 0
AreBelow n [] = Unit {0}
AreBelow n (c ∷ cs) = IsBelow n c × AreBelow n cs

-- each of the first `n` nodes means the tree that it meant
abbrev pub KeepsTrees : ℕ → List Cell → List Cell → Type 0
KeepsTrees n old new = (child : Child) → IsBelow n child → tree new child ≡ tree old child

-- the tokens and branches of the trees of children
abbrev pub tokens_below : List Cell → List Child → ℕ
tokens_below cells cs = length (yields (plain_all (forest_in cells cs)))

abbrev pub branches_below : List Cell → List Child → ℕ
branches_below cells cs = branches_of (plain_all (forest_in cells cs))

-- `IsCell ts cell`: the children of a node are among those so far, of which `ts` are the trees, and its counts are those of its tree, up to
-- the greatest of 64 bits
pub record IsCell (ts : List Stamped) (c : Cell) : Type 0 where
  pub below : AreBelow (length ts) c.children
  pub tokens : c.tokens ≡ min most (length (yields (plain_all (forest_of ts c.children))))
  pub size : c.size ≡ min most (1 + branches_of (plain_all (forest_of ts c.children)))

-- `AreCells ts cells`: `IsCell` holds of each node, after those before it
abbrev pub AreCells : List Stamped → List Cell → Type 0
AreCells ts [] = Unit {0}
AreCells ts (c ∷ cs) = IsCell ts c × AreCells (ts ++ (branch_of ts c ∷ [])) cs

-- each node stands after its children, and has the counts of its tree
abbrev pub IsStore : List Cell → Type 0
IsStore cells = AreCells [] cells

-- the store has one node more, after all others: this production over these children, with the stamp `born` and the name `id`
pub record IsGrown (old : List Cell) (production : ℕ) (children : List Child) (born : ℕ) (new : List Cell) (id : NodeId) : Type 0 where
  pub cell : Cell
  pub production_is : cell.production ≡ production
  pub children_are : cell.children ≡ children
  pub born_is : cell.born ≡ born
  pub cells_are : new ≡ old ++ (cell ∷ [])
  pub id_is : id.index ≡ length old
