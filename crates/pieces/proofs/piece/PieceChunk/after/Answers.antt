use Rattle.pieces.proofs.Std.{◌∙◌, ◌++◌, chars, append-nil, chars-nil}
use Rattle.pieces.proofs.piece.PieceChunk.after.Goals as goal

pub returns : goal.returns
returns c = c.in_ok-both.ensures ∙ (λ i. chars (c.as_str.ensures.value i) ++ c.text.ensures.characters i ++ chars-nil i) ∙ append-nil _
