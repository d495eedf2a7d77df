-- Nodes that are marked, and slide down over the others.
use Rattle.std.specs.Prelude.{◌≡◌, ℕ, zero, suc, ◌+◌, ◌<◌, ◌≤◌, Bool, true, false, List, [], ◌∷◌}
use Rattle.std.specs.Prelude.{cond, count_by, length, slice_index_or, slice_set, take}
use Rattle.definitions.specs.Nodes.{branches}
use Rattle.definitions.specs.TreeEdits.{Stamped, plain}
use Rattle.trees.specs.declared.store.Child.{Child}
use Rattle.trees.specs.declared.store.Child.TheVariants.{Token, Node}
use Rattle.trees.specs.Cells.{Cell, blank}

-- the child is a kind, or a marked node
abbrev pub IsMarked : List Bool → Child → Type 0
IsMarked marks (Token k) = Unit {0}
IsMarked marks (Node id) = slice_index_or marks id.index false ≡ true

-- each of the children is a kind, or a marked node
abbrev pub AreMarked : List Bool → List Child → Type 0
AreMarked marks [] = Unit {0}
AreMarked marks (c ∷ cs) = IsMarked marks c × AreMarked marks cs

-- the marks, with the nodes among the children marked too
abbrev pub mark_all : List Bool → List Child → List Bool
mark_all marks [] = marks
mark_all marks (Token k ∷ cs) = mark_all marks cs
mark_all marks (Node id ∷ cs) = mark_all (slice_set marks id.index true) cs

-- from node `from` on the children of a marked node are marked
abbrev pub IsClosedFrom : ℕ → List Cell → List Bool → Type 0
IsClosedFrom from cells marks = (i : ℕ) → from ≤ i → slice_index_or marks i false ≡ true
    → AreMarked marks (slice_index_or cells i blank).children

-- the children of a marked node are marked
abbrev pub IsClosed : List Cell → List Bool → Type 0
IsClosed cells marks = IsClosedFrom 0 cells marks

-- how many of the first `n` marks are set
abbrev pub rank : List Bool → ℕ → ℕ
rank marks n = count_by (λ mark. mark) (take n marks)

-- `owed n ts marks`: the branches of the marked ones of the first `n` of these trees, and one for each mark after them
abbrev pub owed : ℕ → List Stamped → List Bool → ℕ
owed zero ts marks = count_by (λ mark. mark) marks
owed (suc n) [] marks = 0
owed (suc n) (t ∷ ts) [] = 0
owed (suc n) (t ∷ ts) (mark ∷ marks) = cond mark (branches (plain t)) 0 + owed n ts marks

-- a number for each mark: how many are set before it
pub record AreRanks (marks : List Bool) (ranks : List ℕ) : Type 0 where
  pub long : length ranks ≡ length marks
  pub each : (i : ℕ) → i < length marks → slice_index_or ranks i 0 ≡ rank marks i

-- a child, where these are the new names of the nodes
abbrev pub renamed : List ℕ → Child → Child
renamed names (Token k) = Token k
renamed names (Node id) = Node (record { index = slice_index_or names id.index 0 })
