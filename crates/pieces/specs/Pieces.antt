-- The text of pieces, and what holds of a piece of a text.
use Rattle.std.specs.Prelude.{◌≡◌, ◌≤◌, ℕ, List, length}
use Rattle.std.specs.Str.{chars}
use Rattle.seqtree.specs.Chunks.{joined}
use Rattle.pieces.specs.declared.piece.TheConstants.{LONGEST_PIECE}
use Rattle.pieces.specs.declared.sums.Sums.{Sums}
use Rattle.pieces.specs.Sums.{sums_of}

-- `text_in pieces`: the characters of pieces, in order
abbrev pub text_in : List (List ℕ) → List ℕ
text_in pieces = joined (λ piece. piece) pieces

-- `IsPiece bytes sum`: what a piece keeps: 1 to 1,024 bytes, and the sum of the characters whose UTF-8 they are
pub record IsPiece (bytes : List ℕ) (sums : Sums) : Type 0 where
  pub some : 1 ≤ length bytes
  pub few : length bytes ≤ LONGEST_PIECE
  pub summed : sums ≡ sums_of (chars bytes)
