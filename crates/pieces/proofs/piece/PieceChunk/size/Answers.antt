use Rattle.pieces.proofs.Std.{ap, sym, ◌∙◌, chars}
use Rattle.pieces.proofs.Common.{units, Utf8}
use Rattle.pieces.proofs.Joins.{units-chars}
use Rattle.pieces.proofs.piece.PieceChunk.size.Goals as goal

pub returns : goal.returns
returns c = sym (units-chars c.as_str.result.now c.as_str.utf8) ∙ ap (λ bytes. units Utf8 (chars bytes)) c.as_str.ensures.value
