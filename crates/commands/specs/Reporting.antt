-- What `lrls check` prints of a grammar.
use Rattle.std.specs.Prelude.{◌≡◌, ℕ, ◌++◌, List, [], codes, encode_utf8_all, flat_map, map}
use Rattle.definitions.specs.declared.Symbol.{Symbol}
use Rattle.grammar.specs.Grammars.{FileGrammar}
use Rattle.grammar.specs.Notes.{AreNotes, symbol_name}
use Rattle.commands.specs.declared.printed.Printed.{Printed}

-- `note: unreachable NAME` and the end of the line
abbrev pub note_line : List ℕ → List ℕ
note_line name = codes "note: unreachable " ++ (encode_utf8_all name ++ codes "\n")

-- a line for each of the names, and `ok`
abbrev pub report : List (List ℕ) → List ℕ
report names = flat_map note_line names ++ codes "ok\n"

-- what `lrls check` prints: the `report` of the names that no derivation from the start uses (`AreNotes`), in file order; nothing on
-- standard error; and status 0
pub record IsChecked (file : FileGrammar) (printed : Printed) : Type 0 where
  pub notes : List Symbol
  pub are : AreNotes file file.defined notes
  pub out : printed.out.items ≡ report (map (symbol_name file) notes)
  pub err : printed.err.items ≡ []
  pub status : printed.status ≡ 0
