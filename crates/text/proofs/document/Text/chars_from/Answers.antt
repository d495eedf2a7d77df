use Rattle.std.proofs.Common.{arith, ap, length, rules}
use Rattle.text.proofs.document.Text.chars_from.Goals as goal

pub overflow_add-cut : goal.overflow_add-cut
overflow_add-cut c = omega (arith, c.cut_at-cut.ensures.at.within, c.seq.ensures.few, c.seq.ensures.fits, ap length c.seq.ensures.same)

pub returns : goal.returns
returns c = search rules
