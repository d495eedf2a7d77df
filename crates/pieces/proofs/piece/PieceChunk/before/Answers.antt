use Rattle.pieces.proofs.Std.{◌∙◌, ◌++◌, chars, append-nil, chars-nil}
use Rattle.pieces.proofs.piece.PieceChunk.before.Goals as goal

pub returns : goal.returns
returns c = c.in_ok-both.ensures ∙ (λ i. c.text.ensures.characters i ++ chars (c.as_str.ensures.value i) ++ chars-nil i) ∙ append-nil _
