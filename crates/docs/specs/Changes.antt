-- What a change makes of a document.
use Rattle.std.specs.Prelude.{◌≡◌, ℕ, List, Option, Some}
use Rattle.definitions.specs.declared.Range.{Range}
use Rattle.definitions.specs.Text.{changed}
use Rattle.docs.specs.Docs.{IsCurrent, last_edit, open_document}
use Rattle.readings.specs.Edits.{IsNext}
use Rattle.docs.specs.Languages.{LanguageData}
use Rattle.docs.specs.Stamps.{AreStamped, next_edit}
use Rattle.readings.specs.Texts.{LastEdit}
use Rattle.docs.specs.declared.doc.Doc.{Doc}

-- `IsChanged language range s old new`: the new document is the old one after a change: the same but for its text and its last edit, which
-- is the one after the old one's. Tokens and nodes that this edit keeps have the stamps that they had, and all others its number
pub record IsChanged (language : LanguageData) (range : Option Range) (s : List ℕ) (old new : Doc) : Type 0 where
  pub is : open_document new
      ≡ record { unit = old.unit; version = old.version; text = changed old.unit old.text range s; last = last_edit new }
  pub last : (next : LastEdit) × (last_edit new ≡ Some next)
      × IsNext old.unit language.file old.text range s (last_edit old) next
  pub stamps : AreStamped language.file (next_edit old range s) old new
  pub current : IsCurrent language new
