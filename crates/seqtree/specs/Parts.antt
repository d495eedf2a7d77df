-- What an iterator has still to give: parts of trees, the next one last.
use Rattle.std.specs.Prelude.{ℕ, ◌+◌, ◌<◌, ◌≤◌, List, [], ◌∷◌, ◌++◌, length, drop}
use Rattle.seqtree.specs.Tree.{items_of, height_of}
use Rattle.seqtree.specs.declared.iter.Part.{Part}

module _ {A S : Type 0} where
  -- what is left of a part's tree
  abbrev pub part_items : Part A S → List A
  part_items p = drop p.skipped (items_of p.tree.now)

  -- all that is left, the last part first
  abbrev pub items_ahead : List (Part A S) → List A
  items_ahead [] = []
  items_ahead (p ∷ ps) = items_ahead ps ++ part_items p

  -- at the place k of a stack lies a part with an item, whose tree is low enough that a way down it finds room above k
  pub record IsPart (k : ℕ) (p : Part A S) : Type 0 where
    pub has_item : p.skipped < length (items_of p.tree.now)
    pub room : k + height_of p.tree.now ≤ 128

  -- each from the place k on is such a part
  abbrev pub AreParts : ℕ → List (Part A S) → Type 0
  AreParts k [] = Unit {0}
  AreParts k (p ∷ ps) = IsPart k p × AreParts (k + 1) ps
