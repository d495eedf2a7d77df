-- What a walk along a text knows of it.
use Rattle.std.specs.Prelude.{◌≡◌, ◌≢◌, ℕ, ◌+◌, ◌<◌, ◌≤◌, List, [], ◌∷◌, length, drop, slice_index, Option, Some, None}
use Rattle.definitions.specs.declared.Position.{Position}
use Rattle.definitions.specs.declared.Unit.{Unit as Encoding}
use Rattle.definitions.specs.Text.{position}
use Rattle.colours.specs.Parts.{line_end}

-- where a walk over a text stands: the text, the unit of its position, an offset, and the lines from `first` up to `last`, whose ends it
-- knows
pub record Step : Type 0 where
  pub text : List ℕ
  pub unit : Encoding
  pub offset : ℕ
  pub first : ℕ
  pub last : ℕ

-- the line of a place
abbrev pub line_at : Step → ℕ
line_at s = (position s.unit s.text s.offset).line

-- a character in ASCII that is no part of a line break
abbrev pub IsPlain : ℕ → Type 0
IsPlain c = (c < 128) × (c ≢ 10) × (c ≢ 13)

-- `behind next ahead`: a character, if there is one, and then those ahead
abbrev pub behind : Option ℕ → List ℕ → List ℕ
behind None ahead = []
behind (Some c) ahead = c ∷ ahead

-- `AreEnds encoding t first ends`: so many units have the lines from the first one on
abbrev pub AreEnds : Encoding → List ℕ → ℕ → List ℕ → Type 0
AreEnds encoding t first ends = (k : ℕ) → k < length ends → slice_index ends k ≡ line_end encoding t (first + k)

-- the offset has this position; the next characters are plain, so many; and then come `next` and those ahead
pub record IsStep (t : List ℕ) (encoding : Encoding) (offset : ℕ) (at : Position) (plain : ℕ) (next : Option ℕ) (ahead : List ℕ)
    (first : ℕ) (ends : List ℕ) : Type 0 where
  pub within : offset + plain ≤ length t
  pub few : length t ≤ 1048576
  pub is : at ≡ position encoding t offset
  pub plains : (k : ℕ) → k < plain → IsPlain (slice_index t (offset + k))
  pub rest : drop (offset + plain) t ≡ behind next ahead
  pub known : AreEnds encoding t first ends
