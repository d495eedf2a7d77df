use Rattle.std.proofs.Common.{rules}
use Rattle.seqtree.proofs.HeightBound.{IsLow-digits}
use Rattle.seqtree.proofs.seq.Seq.height.Goals as goal

pub returns-clause-low : goal.returns-clause-low
returns-clause-low g c = rw (c.height.ensures.is, ← c.self.view_is) (IsLow-digits _ _ c.height.ensures.low)

pub returns-clause-high : goal.returns-clause-high
returns-clause-high g c = search rules
