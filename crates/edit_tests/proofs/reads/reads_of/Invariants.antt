use Rattle.grammar.specs.Grammars.{lexicon_of}
use Rattle.lexer.specs.Rescans.{significant_kinds}
use Rattle.lexer.specs.Tokens.{AreTokensOf}
use Rattle.parser.specs.Parses.{IsParseOf}
use Rattle.edit_tests.proofs.reads.reads_of.Given as goal

abbrev pub invariant-changes : goal.invariant-changes
invariant-changes g l = record {
  tokens : AreTokensOf (lexicon_of l.language.file) l.document.text l.document.tokens.items;
  parse : IsParseOf l.language.tables (significant_kinds l.document.tokens.items) l.document.store l.document.parse;
}
