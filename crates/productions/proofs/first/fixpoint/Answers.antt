use Rattle.productions.proofs.Fixpoint.{smaller}
use Rattle.productions.proofs.first.fixpoint.Goals as goal

pub loop-more-smaller : goal.loop-more-smaller
loop-more-smaller c = smaller _ _ _ _ c.loop-more-test.true c.pass-more.ensures.at_most c.pass-more.ensures.fewer
