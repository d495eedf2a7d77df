-- Nodes in little room, and what they stand for.
use Rattle.std.specs.Prelude.{ℕ, ◌<◌, ◌^◌, List, map}
use Rattle.trees.specs.declared.node.Form.{Form}
use Rattle.trees.specs.declared.node.Form.TheVariants.{Narrow, Wide}
use Rattle.trees.specs.declared.node.Label.{Label}
use Rattle.trees.specs.declared.node.Numbers.{Numbers}
use Rattle.trees.specs.declared.store.Child.{Child}
use Rattle.trees.specs.Cells.{Cell}
use Rattle.trees.specs.Packing.{unpack}

-- the numbers of a node, its production among them
abbrev pub label_of : ℕ → Numbers → Label
label_of production n = record { production = production; born = n.born; tokens = n.tokens; size = n.size }

-- a node with this label and these children
abbrev pub cell : Label → List Child → Cell
cell label children = record {
  production = label.production;
  born = label.born;
  tokens = label.tokens;
  size = label.size;
  children = children;
}

-- what a form of a node stands for
abbrev pub cell_in : Form → Cell
cell_in (Narrow production numbers children) = cell (label_of production numbers) (map unpack children.items)
cell_in (Wide w) = cell w.value.label w.value.children.items

-- a production of 16 bits, and other numbers of 32 bits
pub record IsSmall (label : Label) : Type 0 where
  pub production : label.production < 2 ^ 16
  pub born : label.born < 2 ^ 32
  pub tokens : label.tokens < 2 ^ 32
  pub size : label.size < 2 ^ 32

-- the numbers lie in the node itself, and the children in 32 bits each
abbrev pub IsNarrow : Form → Type 0
IsNarrow (Narrow production numbers children) = Unit {0}
IsNarrow (Wide w) = ⊥
