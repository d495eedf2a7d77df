-- Which ranges a position leads to.
use Rattle.std.specs.Prelude.{◌≡◌, ℕ, ◌<◌, ◌≤◌, ◌⊎◌, List, length}
use Rattle.definitions.specs.declared.Position.{Position}
use Rattle.definitions.specs.declared.Range.{Range}
use Rattle.definitions.specs.declared.Unit.{Unit as Encoding}
use Rattle.definitions.specs.Answers.{range_of}
use Rattle.definitions.specs.Text.{offset}
use Rattle.hover.specs.declared.partners.BracketPair.{BracketPair}

-- `Touches n at from to`: in a text of `n` characters the offset lies between these two, or is one of them
pub record Touches (n at from to : ℕ) : Type 0 where
  pub begins : from ≤ at
  pub ends : at ≤ to
  pub within : to ≤ n

-- `IsRangeAt encoding t at range`: the range lies in the text, and the position in it or at one of its ends
pub record IsRangeAt (encoding : Encoding) (t : List ℕ) (at : Position) (range : Range) : Type 0 where
  pub from : ℕ
  pub to : ℕ
  pub touches : Touches (length t) (offset encoding t at) from to
  pub is : range ≡ range_of encoding t (from, to)

-- `AreBrackets encoding t at b`: the two ranges lie in the text, each has a width, the second is after the first, and the position in one
-- of them or at one of its ends
pub record AreBrackets (encoding : Encoding) (t : List ℕ) (at : Position) (b : BracketPair) : Type 0 where
  pub from : ℕ
  pub inner : ℕ
  pub after : ℕ
  pub to : ℕ
  pub begins : from < inner
  pub ordered : inner ≤ after
  pub ends : after < to
  pub within : to ≤ length t
  pub opening : b.opening ≡ range_of encoding t (from, inner)
  pub closing : b.closing ≡ range_of encoding t (after, to)
  pub touches : Touches (length t) (offset encoding t at) from inner ⊎ Touches (length t) (offset encoding t at) after to
