-- What the proofs of this crate cite of definitions, of types and of the repository's crates, passed on from one place. Declares nothing.
pub use Rattle.definitions.proofs.TokensUnique.{IsPiece-inside}
pub use Rattle.definitions.specs.Sentences.{IsSentence, IsViable}
pub use Rattle.definitions.specs.Trees.{Grammar}
pub use Rattle.definitions.specs.declared.Kind.{Kind}
pub use Rattle.definitions.specs.declared.Kind.TheVariants.{Rule as TokenRule}
pub use Rattle.definitions.proofs.TokensLead.{chars, chars-cons}
pub use Rattle.definitions.specs.Tokens.{AreTokens, IsPiece, Token as PlainToken, is_skipped}
pub use Rattle.definitions.specs.declared.expression.Expression.{Expression}
pub use Rattle.dfa.specs.Table.{IsAutomaton}
pub use Rattle.lexer.proofs.Remakes.{chars-plain, plain-take, tokens_length}
pub use Rattle.lexer.proofs.Scans.{characters-more}
pub use Rattle.lexer.proofs.SignificantKinds.{get_none, kinds_append, kinds_plain}
pub use Rattle.lexer.proofs.Totals.{tot, total_characters}
pub use Rattle.grammar.specs.Grammars.{FileGrammar}
pub use Rattle.lexer.specs.Rescans.{significant_kinds}
pub use Rattle.lexer.specs.Tokens.{characters, kind_in, plain}
pub use Rattle.lexer.specs.declared.sums.Sums.{Sums}
pub use Rattle.lexer.specs.declared.sums.Token.{Token}
pub use Rattle.tables.specs.Expected.{AreExpected, in_file_order}
pub use Rattle.tables.specs.Tables.{Sets}
pub use Rattle.theory.proofs.Verdicts.{viable_prefix}
pub use Rattle.states.specs.Piles.{AreStatesAfter}
pub use Rattle.completion.specs.Offers.{offer}
pub use Rattle.completion.specs.Places.{AreBefore, EndsAt, Expected, Goes_into, IsLetter, MayFollow, typed, unskipped}
pub use Rattle.completion.specs.Words.{is_in_word, offer_of}
pub use Rattle.settings.specs.declared.expressions.RuleText.{RuleText}
