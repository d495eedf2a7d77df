-- What the proofs of this crate cite of definitions, of types and of the repository's crates, passed on from one place. Declares nothing.
pub use Rattle.seqtree.proofs.Gaps.{filled_between}
pub use Rattle.seqtree.proofs.Joined.{in_order}
pub use Rattle.definitions.proofs.Characters.{IsText-chars, IsText-edit}
pub use Rattle.definitions.proofs.OffsetOfPosition.{ended, ended-cons, none_ended}
pub use Rattle.definitions.proofs.OffsetsInLine.{in_line_end}
pub use Rattle.definitions.specs.Text.{IsCharacter, IsText, edit, ends_break, span, unit}
unfoldable pub use Rattle.definitions.specs.Text.{break_ends, changed, line_from, line_of, line_start, position, units}
pub use Rattle.definitions.specs.declared.Position.{Position}
pub use Rattle.definitions.specs.declared.Unit.{Unit as Encoding}
pub use Rattle.definitions.specs.declared.Unit.TheVariants.{Utf16, Utf32, Utf8}
pub use Rattle.pieces.proofs.Joins.{units-bytes, units-chars}
pub use Rattle.pieces.specs.Pieces.{text_in}
pub use Rattle.pieces.specs.Places.{IsCut}
pub use Rattle.pieces.specs.declared.places.Cut.{Cut}
pub use Rattle.text.specs.Places.{IsPlaced}
pub use Rattle.text.specs.Stored.{IsStored}
