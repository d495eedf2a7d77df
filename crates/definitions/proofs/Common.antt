-- What the proofs of this crate cite of definitions, of types and of the repository's crates, passed on from one place. Declares nothing.
pub use Rattle.definitions.specs.Answers.{AreCovering, AreFolds, Encloses, IsBefore, IsSelection, Node, shortened, span}
pub use Rattle.definitions.specs.DocumentNodes.{IsNodeOf}
pub use Rattle.definitions.specs.Laws.{AreWell, IsInLine, IsOffset, IsPlace}
pub use Rattle.definitions.specs.PatternFaults.{code_after, is_everything, is_nothing}
pub use Rattle.definitions.specs.Patterns.{IsPrefix, Matches, is_in_class, is_member, is_within}
pub use Rattle.definitions.specs.Sentences.{IsExpected}
pub use Rattle.definitions.specs.Text.{IsCharacter, IsText, begins_with, edit, ends_break, unit}
unfoldable pub use Rattle.definitions.specs.Text.{break_ends, greatest, line_from, line_of, line_start, offset, position, units}
pub use Rattle.definitions.specs.TokenEdits.{Splice, is_rejoined, kept_before, plain_splice, rejoin}
pub use Rattle.definitions.specs.Tokens.{AreTokens, IsDead, IsLongest, IsPiece, IsReach, IsRulePrefix, IsToken, Leads, Placed, RuleMatches, Token, boundaries, is_skipped, kinds, placed, significant}
pub use Rattle.definitions.specs.Trees.{Grammar}
pub use Rattle.definitions.specs.contracts.KindPartialEq.TheImpl.{eq-value}
pub use Rattle.definitions.specs.declared.Edit.{Edit}
pub use Rattle.definitions.specs.declared.Kind.{Kind}
pub use Rattle.definitions.specs.declared.Kind.TheVariants.{Invalid, Rule}
pub use Rattle.definitions.specs.declared.KindSplice.{KindSplice}
pub use Rattle.definitions.specs.declared.Position.{Position}
pub use Rattle.definitions.specs.declared.Unit.{Unit as Encoding}
pub use Rattle.definitions.specs.declared.Unit.TheVariants.{Utf16, Utf32, Utf8}
pub use Rattle.definitions.specs.declared.expression.Expression.{Expression}
pub use Rattle.definitions.specs.declared.expression.Interval.{Interval}
