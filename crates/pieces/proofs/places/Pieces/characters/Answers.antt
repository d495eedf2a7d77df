use Rattle.pieces.proofs.Std.{arith, ◌∙◌, ◌≤◌}
use Rattle.pieces.proofs.Common.{text_in, units, Utf8, most}
use Rattle.pieces.proofs.Summed.{total-pieces}
use Rattle.pieces.proofs.places.Pieces.characters.Goals as goal

pub returns : goal.returns
returns c =
    let fits : units Utf8 (text_in c.seq.result.now) ≤ most = omega (arith, c.seq.ensures.fits) in
    rw (← c.seq.ensures.same) (c.characters_in.ensures (text_in c.seq.result.now) (c.total.ensures ∙ total-pieces c.seq.result.now fits))
