-- Which rows are shown of a text.
use Rattle.std.specs.Prelude.{◌≡◌, ℕ, ◌<◌, ◌≤◌, List}
use Rattle.definitions.specs.Answers.{range_of}
use Rattle.definitions.specs.declared.Unit.{Unit as Encoding}
use Rattle.token_rows.specs.declared.rows.TokenRow.{TokenRow}

-- `IsRowOf encoding t end row`: the row is about a part of the text that begins before the line `end`
pub record IsRowOf (encoding : Encoding) (t : List ℕ) (end : ℕ) (row : TokenRow) : Type 0 where
  pub from : ℕ
  pub to : ℕ
  pub ordered : from ≤ to
  pub range : row.range ≡ range_of encoding t (from, to)
  pub before : row.range.start.line < end
