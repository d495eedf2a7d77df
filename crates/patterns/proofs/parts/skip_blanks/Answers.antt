use Rattle.patterns.proofs.Std.{arith}
use Rattle.patterns.proofs.Common.{writing}
use Rattle.patterns.proofs.Blanks.{no_blanks, one_more_blank}
use Rattle.patterns.proofs.parts.skip_blanks.Goals as goal

pub loop-after-init : goal.loop-after-init
loop-after-init c = (no_blanks (writing c.args.words.now), omega arith)

pub loop-after-preserved : goal.loop-after-preserved
loop-after-preserved c =
    let h = c.in-Some.ensures in
    (one_more_blank (writing c.args.words.now) (writing c.loop-after.rest.now) (writing c.in-Some.after.now) c.loop-after.invariant.0 h.0, omega arith)
