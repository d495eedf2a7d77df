-- What a list of trees has before a place among its kinds, and after it.
use Rattle.std.specs.Prelude.{◌≡◌, ℕ, ◌+◌, ◌<◌, List, [], ◌∷◌, ◌++◌, length}
use Rattle.definitions.specs.Trees.{yield}
use Rattle.definitions.specs.TreeEdits.{StampedBranch, plain}
use Rattle.trees.specs.declared.store.NodeId.{NodeId}
use Rattle.trees.specs.declared.store.Child.{Child}
use Rattle.trees.specs.declared.store.Child.TheVariants.{Node}
use Rattle.trees.specs.Cells.{Cell, AreBelow, forest_of, tree, trees_from}

-- how many kinds a child has
abbrev pub kinds_in : List Cell → Child → ℕ
kinds_in cells c = length (yield (plain (tree cells c)))

-- the children of a node, which stand before it
pub record AreChildren (cells : List Cell) (id : NodeId) (children : List Child) : Type 0 where
  pub below : AreBelow id.index children
  pub production : ℕ
  pub born : ℕ
  pub is : tree cells (Node id) ≡ StampedBranch production born (forest_of (trees_from [] cells) children)

-- `IsSplitAt cells n cs start back`: `start` has the trees of `cs` among the first `n` kinds, and `back` those after them; a tree with
-- kinds on both sides is opened, and no other one
pub data IsSplitAt (cells : List Cell) : ℕ → List Child → List Child → List Child → Type 0 where
  Here : {cs : List Child} → IsSplitAt cells 0 cs [] cs
  Used_up : {n : ℕ} → IsSplitAt cells n [] [] []
  Whole : {m n : ℕ} {c : Child} {cs start back : List Child} → kinds_in cells c + m ≡ n → IsSplitAt cells m cs start back
      → IsSplitAt cells n (c ∷ cs) (c ∷ start) back
  Opened : {n : ℕ} {id : NodeId} {kids cs start back : List Child} → 0 < n → n < kinds_in cells (Node id) → AreChildren cells id kids
      → IsSplitAt cells n (kids ++ cs) start back → IsSplitAt cells n (Node id ∷ cs) start back
