-- What the proofs of this crate cite of definitions, of types and of the repository's crates, passed on from one place. Declares nothing.
pub use Rattle.commands.specs.Arguments.{AsksFor, alone, grammar_in, lrls, one, text_in, two}
pub use Rattle.commands.specs.CommandLines.{Asks, IsRead, is_flag, paths}
pub use Rattle.commands.specs.declared.asked.Words.{Words}
pub use Rattle.commands.specs.declared.asked.Words.TheVariants.{Check, Parse, Serve}
pub use Rattle.definitions.specs.declared.Symbol.{Symbol}
pub use Rattle.commands.specs.Conflicts.{name_bytes, names_with_spaces}
pub use Rattle.grammar.specs.Grammars.{FileGrammar}
pub use Rattle.grammar.specs.Notes.{AreNotes, symbol_name}
pub use Rattle.commands.specs.Reporting.{note_line, report}
pub use Rattle.definitions.specs.declared.Unit.{Unit as Encoding}
pub use Rattle.definitions.specs.declared.Unit.TheVariants.{Utf16}
pub use Rattle.docs.specs.declared.doc.Outcome.{Outcome}
pub use Rattle.docs.specs.Outcomes.{IsOutcome}
pub use Rattle.docs.specs.Texts.{OpenDocument, fits}
