-- What the proofs of this crate cite of definitions, of types and of the repository's crates, passed on from one place. Declares nothing.
pub use Rattle.seqtree.specs.Chunks.{AreCut, AreFew, HasRoom, IsCut, IsCutOff, IsGap, IsLarge, IsMeasure, IsShort, is_small, joined}
pub use Rattle.seqtree.specs.Goal.{IsLeast}
pub use Rattle.seqtree.specs.Monoid.{MonoidLaws, total}
pub use Rattle.seqtree.specs.Parts.{AreParts, IsPart, items_ahead, part_items}
pub use Rattle.seqtree.specs.Tree.{DifferByAtMost, IsLow, digits, height_of, items_of}
pub use Rattle.seqtree.specs.declared.iter.Part.{Part}
