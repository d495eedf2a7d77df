-- Documents, and their texts.
use Rattle.std.specs.Prelude.{ℕ, ℤ, ◌&&◌, Bool, nat_le, List, length, Option, encode_utf8_all}
use Rattle.std.specs.Str.{all_scalars}
use Rattle.definitions.specs.declared.Unit.{Unit as Encoding}

-- an edit's number, and how many tokens and how many nodes it made
pub record LastEdit : Type 0 where
  pub number : ℕ
  pub scanned : ℕ
  pub built : ℕ

-- the unit that a document's positions count, its version, its text and its last edit, if there was one
pub record OpenDocument : Type 0 where
  pub unit : Encoding
  pub version : ℤ
  pub text : List ℕ
  pub last : Option LastEdit

-- whether the text is of Unicode scalar values and has at most 1,048,576 bytes of UTF-8; a document has no other text
abbrev pub fits : List ℕ → Bool
fits text = all_scalars text && nat_le (length (encode_utf8_all text)) 1_048_576
