-- The trees that a compaction keeps.
use Rattle.std.specs.Prelude.{ℕ, List, map}
use Rattle.definitions.specs.Nodes.{all_branches}
use Rattle.definitions.specs.TreeEdits.{plain_trees}
use Rattle.trees.specs.declared.store.NodeId.{NodeId}
use Rattle.trees.specs.declared.store.Child.{Child}
use Rattle.trees.specs.declared.store.Child.TheVariants.{Node}
use Rattle.trees.specs.Cells.{Cell, all_trees}

-- nodes as children
abbrev pub nodes : List NodeId → List Child
nodes ids = map (λ id. Node id) ids

-- how many branches the trees of children have in all
abbrev pub sizes : List Cell → List Child → ℕ
sizes cells cs = all_branches (plain_trees (all_trees cells cs))
