-- What a cut of a text in pieces says.
use Rattle.std.specs.Prelude.{◌≡◌, ◌<◌, ◌^◌, ℕ, List, take}
use Rattle.std.specs.Str.{chars}
use Rattle.seqtree.specs.Chunks.{IsCut as IsCutAt}
use Rattle.definitions.specs.Text.{units}
use Rattle.definitions.specs.declared.Unit.TheVariants.{Utf8}
use Rattle.pieces.specs.declared.places.Cut.{Cut}
use Rattle.pieces.specs.Pieces.{text_in}

-- before the cut lie whole pieces and a prefix of the next one, which together are the characters before the offset; after it lie the rest
-- of that piece and all further ones; `bytes` is how many bytes lie before it, and the pieces can be counted
pub record IsCut (pieces : List (List ℕ)) (offset : ℕ) (cut : Cut) : Type 0 where
  pub at : IsCutAt (λ piece. piece) pieces offset cut.piece (chars cut.prefix.now) (chars cut.back.now)
  pub few : cut.piece < 2 ^ 32
  pub bytes : cut.bytes ≡ units Utf8 (take offset (text_in pieces))
