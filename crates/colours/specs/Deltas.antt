-- What an edit of numbers makes of them (LSP 3.17, "SemanticTokensEdit").
use Rattle.std.specs.Prelude.{ℕ, ◌+◌, List, ◌++◌, take, drop, Option, Some, None}
use Rattle.colours.specs.declared.edits.DataEdit.{DataEdit}

-- `applied edit numbers`: from place `start` on `delete_count` numbers give way to those of the edit; without an edit all stay (LSP 3.17,
-- "SemanticTokensEdit")
abbrev pub applied : Option DataEdit → List ℕ → List ℕ
applied None numbers = numbers
applied (Some edit) numbers = take edit.start numbers ++ edit.numbers.now ++ drop (edit.start + edit.delete_count) numbers
