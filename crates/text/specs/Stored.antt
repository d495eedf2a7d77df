-- What holds of the pieces that a `Text` keeps.
use Rattle.std.specs.Prelude.{ℕ, ◌≤◌, List, length, encode_utf8_all}
use Rattle.pieces.specs.Pieces.{text_in}
use Rattle.definitions.specs.Text.{IsText}
use Rattle.text.specs.declared.document.TheConstants.{LONGEST_TEXT}

-- what a `Text` keeps: pieces of characters, with at most 1,048,576 bytes in all
pub record IsStored (pieces : List (List ℕ)) : Type 0 where
  pub text : IsText (text_in pieces)
  pub few : length (encode_utf8_all (text_in pieces)) ≤ LONGEST_TEXT
