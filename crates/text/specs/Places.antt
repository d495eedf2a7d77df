-- A place in a text.
use Rattle.std.specs.Prelude.{◌≡◌, ◌<◌, ◌≤◌, ◌^◌, ℕ, List, length, drop}
use Rattle.definitions.specs.declared.Position.{Position}
use Rattle.definitions.specs.declared.Unit.{Unit as Encoding}
use Rattle.definitions.specs.Text as of

-- where a walk over a text stands: the text, an offset in it, and the unit of its position
pub record Place : Type 0 where
  pub text : List ℕ
  pub offset : ℕ
  pub unit : Encoding

-- the offset lies in the text, `left` of it is ahead, and the offset has this position
pub record IsPlaced (text left : List ℕ) (offset : ℕ) (unit : Encoding) (at : Position) : Type 0 where
  pub within : offset ≤ length text
  pub few : length text < 2 ^ 29
  pub ahead : left ≡ drop offset text
  pub is : at ≡ of.position unit text offset
