use Rattle.readings.proofs.EachEditIsCounted.{always_counts}
use Rattle.readings.proofs.laws.edits_are_counted.Goals as goal

pub returns : goal.returns
returns c = always_counts
