-- What the proofs of this crate cite of definitions, of types and of the repository's crates, passed on from one place. Declares nothing.
pub use Rattle.seqtree.proofs.Joined.{all_before, cut_at_end, cut_in, inside, joined-append, none_after, prefix-more, whole_at, within_chunks}
pub use Rattle.seqtree.specs.Chunks.{IsCutOff}
pub use Rattle.definitions.proofs.OffsetOfPosition.{ended, ended-cons, line_start-le, none_ended, units-take-lt}
pub use Rattle.definitions.proofs.OffsetsInLine.{in_line}
pub use Rattle.definitions.proofs.TextLaws.{IsOffset-offset, greatest-is}
pub use Rattle.definitions.specs.Text.{begins_with, ends_break, unit}
unfoldable pub use Rattle.definitions.specs.Text.{break_ends, greatest, line_from, line_of, line_start, offset, position, units}
pub use Rattle.definitions.specs.declared.Position.{Position}
pub use Rattle.definitions.specs.declared.Unit.{Unit as Encoding}
pub use Rattle.definitions.specs.declared.Unit.TheVariants.{Utf16, Utf32, Utf8}
pub use Rattle.pieces.specs.Laws.{joined-assoc, sums_laws}
pub use Rattle.pieces.specs.Pieces.{text_in}
pub use Rattle.pieces.specs.Places.{IsCut}
pub use Rattle.pieces.specs.Prefixes.{IsPast, goes_on, prefix_of, room, with_ones}
pub use Rattle.pieces.specs.Sums.{HaveRoom, after_joined, ascii_units, count_of, counts_joined, counts_of, end_before_feed, ends_with, is_after_character, is_after_position, is_none, joined, later_breaks, line_sums, most, no_units, shown_units, sum, sums_of, units_joined, units_of}
pub use Rattle.pieces.specs.declared.look_up.Prefix.{Prefix}
pub use Rattle.pieces.specs.declared.places.Cut.{Cut}
pub use Rattle.pieces.specs.declared.sums.AfterCharacter.{AfterCharacter}
pub use Rattle.pieces.specs.declared.sums.AfterPosition.{AfterPosition}
pub use Rattle.pieces.specs.declared.sums.Counts.{Counts}
pub use Rattle.pieces.specs.declared.sums.Sums.{Sums}
pub use Rattle.pieces.specs.declared.sums.Sums.TheVariants.{Empty, Filled}
pub use Rattle.pieces.specs.declared.sums.Units.{Units}
pub use Rattle.seqtree.specs.Monoid.{total}
pub use Rattle.seqtree.specs.Saturated.{saturated-exact, saturated-zero_left}
