-- What the proofs of this crate cite of definitions, of types and of the repository's crates, passed on from one place. Declares nothing.
pub use Rattle.definitions.proofs.OffsetOfPosition.{ended, ended-cons, line_start-le, none_ended}
pub use Rattle.definitions.proofs.OffsetsInLine.{in_line_end}
pub use Rattle.definitions.proofs.PastTheEnd.{length-line_from, position-min}
pub use Rattle.definitions.proofs.PositionOfOffset.{line_of-place, position-of_offset}
pub use Rattle.definitions.proofs.TextLaws.{greatest-is}
pub use Rattle.definitions.proofs.TokensLead.{chars, chars-cons}
pub use Rattle.definitions.specs.Text.{begins_with, ends_break, unit}
unfoldable pub use Rattle.definitions.specs.Text.{break_ends, line_from, line_of, line_start, offset, position, units}
pub use Rattle.definitions.specs.Tokens.{Token as PlainToken}
pub use Rattle.definitions.specs.declared.Position.{Position}
pub use Rattle.definitions.specs.declared.Unit.{Unit as Encoding}
pub use Rattle.definitions.specs.declared.Unit.TheVariants.{Utf16, Utf32, Utf8}
pub use Rattle.lexer.proofs.Remakes.{chars-plain, tokens_length}
pub use Rattle.lexer.proofs.Totals.{tot, total_characters}
pub use Rattle.lexer.specs.Tokens.{characters, kind_in, plain}
pub use Rattle.lexer.specs.declared.sums.Sums.{Sums}
pub use Rattle.lexer.specs.declared.sums.Token.{Token}
pub use Rattle.colours.specs.Encoding.{AreEncoded, IsUpTo, not_above, not_below, part_if, start_of}
pub use Rattle.colours.specs.Parts.{Part, colour_of, coloured_from, decoded, decoded_from, line_end, origin, part_on, parts_between, parts_in, within}
