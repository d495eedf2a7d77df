-- A document whose text is ahead of its tokens and of its parse by an edit, and what a scan and a parse make of it.
use Rattle.std.specs.Prelude.{◌≡◌, ℕ, ◌+◌, ◌≤◌, List, length}
use Rattle.definitions.specs.declared.Edit.{Edit}
use Rattle.definitions.specs.Text.{edit}
use Rattle.definitions.specs.TokenEdits.{made}
use Rattle.definitions.specs.TreeEdits.{Built}
use Rattle.docs.specs.Docs.{IsCurrent}
use Rattle.docs.specs.Languages.{LanguageData}
use Rattle.docs.specs.Stamps.{AreStamped, splice_between}
use Rattle.docs.specs.declared.doc.Doc.{Doc}
use Rattle.lexer.specs.Rescans.{plain_all}
use Rattle.parser.specs.Machine.{plain_of}
use Rattle.parser.specs.Stamps.{AreOlder}
use Rattle.trees.specs.Cells.{all_trees}

-- `LeadsTo was e now`: the edit `e` of the text `was` makes the text `now`
abbrev pub LeadsTo : List ℕ → Edit → List ℕ → Type 0
LeadsTo was e now = (piece : List ℕ) × (e.at + e.removed ≤ length was) × (e.inserted ≡ length piece)
    × (now ≡ edit was e.at (e.at + e.removed) piece)

-- the document with this text in place of its own
abbrev pub with_text : Doc → List ℕ → Doc
with_text d text =
    record { unit = d.unit; version = d.version; text = text; tokens = d.tokens; store = d.store; parse = d.parse }

-- the tokens and the parse are those of some text, by this language, from which the edit leads to the document's text; its number is that
-- of no earlier edit
pub record IsAhead (language : LanguageData) (e : Edit) (d : Doc) : Type 0 where
  pub was : List ℕ
  pub current : IsCurrent language (with_text d was)
  pub leads : LeadsTo was e d.text
  pub later : d.parse.number ≤ e.number
  pub numbered : 1 ≤ e.number

-- `IsSettled language e old new`: the tokens and the parse of the new document are those of its text. They are the old ones after the
-- edit, whose number is the last edit's: counted is what it doesn't keep, and what it keeps has the stamps that it had
pub record IsSettled (language : LanguageData) (e : Edit) (old new : Doc) : Type 0 where
  pub number : new.parse.number ≡ e.number
  pub scanned : new.tokens.scanned ≡ length (made e (plain_all old.tokens.items) (plain_all new.tokens.items))
  pub built : AreOlder e.number (all_trees old.store old.parse.stack)
      → Built (splice_between language.file e old new) (plain_of old.store old.parse.stack) 0 (plain_of new.store new.parse.stack)
      new.parse.built
  pub stamps : AreStamped language.file e old new
  pub current : IsCurrent language new
