-- What a document is after changes of whose counts none are reported.
use Rattle.std.specs.Prelude.{◌≡◌, ◌⊎◌, ◌<◌, List, Option, Some}
use Rattle.readings.specs.Edits.{number_of}
use Rattle.readings.specs.Grammars.{FileGrammar}
use Rattle.readings.specs.Texts.{LastEdit, OpenDocument}
use Rattle.rpc.specs.Messages.{TextChange}
use Rattle.sessions.specs.Documents.{edited, IsLastAfter}

-- the next edit makes the same after either of these: they are the same, or have one number, which isn't the greatest
abbrev pub AreAlikeForNext : Option LastEdit → Option LastEdit → Type 0
AreAlikeForNext one other =
    (one ≡ other) ⊎ (number_of one ≡ number_of other) × (number_of other < 18_446_744_073_709_551_615)

-- `IsAfter file d changes e`: `e` is the document `d` after changes, but for what was made on the way: `last` is the last edit, if each
-- change were one
pub record IsAfter (file : FileGrammar) (d : OpenDocument) (changes : List TextChange) (e : OpenDocument) : Type 0 where
  pub text : edited d.unit d.text changes ≡ Some e.text
  pub unit : e.unit ≡ d.unit
  pub last : Option LastEdit
  pub is_last : IsLastAfter d.unit file d.text changes d.last last
  pub alike : AreAlikeForNext last e.last
