-- A document, as its callers see it.
use Rattle.std.specs.Prelude.{◌≡◌, ◌≤◌, ◌==◌, if◌then◌else◌, length, All, Option, Some, None}
use Rattle.grammar.specs.Grammars.{lexicon_of}
use Rattle.lexer.specs.Rescans.{significant_kinds}
use Rattle.lexer.specs.Tokens.{AreTokensOf}
use Rattle.parser.specs.Compact.{bound}
use Rattle.parser.specs.Parses.{IsParseOf}
use Rattle.docs.specs.Languages.{LanguageData}
use Rattle.readings.specs.Texts.{LastEdit, OpenDocument}
use Rattle.docs.specs.declared.doc.Doc.{Doc}

-- the last edit of a document of the code; none where it is as it was opened
abbrev pub last_edit : Doc → Option LastEdit
last_edit d =
    if d.parse.number == 0
    then None
    else Some (record { number = d.parse.number; scanned = d.tokens.scanned; built = d.parse.built })

-- a document of the code as an `OpenDocument`
abbrev pub open_document : Doc → OpenDocument
open_document d = record { unit = d.unit; version = d.version; text = d.text; last = last_edit d }

-- the tokens and the parse that a document keeps are those of its text, by this language; no token was made by an edit after the last one,
-- and the nodes in memory are bounded
pub record IsCurrent (language : LanguageData) (d : Doc) : Type 0 where
  pub tokens : AreTokensOf (lexicon_of language.file) d.text d.tokens.items
  pub parse : IsParseOf language.tables (significant_kinds d.tokens.items) d.store d.parse
  pub grammar : language.tables.grammar ≡ language.file.grammar
  pub born : All (λ x. x.born ≤ d.parse.number) d.tokens.items
  pub scanned : d.parse.number ≡ 0 → d.tokens.scanned ≡ length d.tokens.items
  pub built : d.parse.number ≡ 0 → d.parse.built ≡ d.parse.branches
  pub bounded : length d.store ≤ bound d.parse.branches
