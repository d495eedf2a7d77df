-- What the proofs of this crate cite of definitions, of types and of the repository's crates, passed on from one place. Declares nothing.
pub use Rattle.definitions.specs.PatternFaults.{ARepetition, AnAtom, Before, Dash, First, InClass, InItem, InLiteral, IsFault, Items, Next, Nothing, Opened, Outside, State}
pub use Rattle.definitions.specs.PatternFaults.{caret, char_in_class, close, closed, code_after, dash, fault_at_end, fault_from, is_atom, is_everything, is_nothing, is_something, or_later, step}
unfoldable pub use Rattle.definitions.specs.PatternFaults.{first_fault}
pub use Rattle.definitions.specs.PatternText.{BadEscape, Escaped, Plain, Written, braced, digits, escape, is_mark, is_scalar, written}
pub use Rattle.definitions.specs.Patterns.{IsJoin, IsNonemptyJoin, Matches, is_in_class, is_member, is_within}
pub use Rattle.definitions.specs.Spelling.{Address, Alt, Atom, IsBlank, IsClass, IsClassChar, IsClassRest, IsItem, IsLiteral, IsLiteralChar, IsLiteralRest, IsPattern, IsSign, IsWellMade, Level, Rep, Seq, Spells, SpellsAt}
pub use Rattle.definitions.specs.Spelling.{blank_after, blank_before, choice, class, group, literal, one_atom, one_rep, one_seq, optional, plus, sequence, star}
pub use Rattle.definitions.specs.Text.{IsCharacter, IsText}
pub use Rattle.definitions.specs.declared.expression.Expression.{Expression}
pub use Rattle.definitions.specs.declared.expression.Expression.TheVariants.{Choice', Class, Literal, Optional', Plus', Sequence', Star'}
pub use Rattle.definitions.specs.declared.expression.Interval.{Interval}
pub use Rattle.definitions.specs.declared.expression.PatternCause.TheVariants.{EmptyClass, MatchesEmpty, Syntax}
pub use Rattle.definitions.specs.declared.expression.PatternFault.{PatternFault}
pub use Rattle.patterns.specs.Empty.{is_empty, matches_empty}
pub use Rattle.patterns.specs.Reading.{Begins, HasNoBlank, HasNoClassChar, HasNoLiteralChar, IsAtEnd, IsBlankAt, IsBlanks, IsCaret, IsClassBody, IsClassPrefix, IsItemPrefix, IsLiteralPrefix, IsPart, IsRead, IsRepeated, Reports, fault_at, place, place_of, stops, writing, written_as}
pub use Rattle.patterns.specs.Sound.{is_range, is_sound}
pub use Rattle.patterns.specs.declared.characters.Character.{Character}
pub use Rattle.patterns.specs.declared.refusals.Refusal.{Refusal}
pub use Rattle.patterns.specs.declared.refusals.Refusal.TheVariants.{Fault, Memory}
