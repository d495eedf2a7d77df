use Rattle.readings.proofs.EachEditIsCountedOnce.{counts_once}
use Rattle.readings.proofs.laws.edits_are_counted_once.Goals as goal

pub returns : goal.returns
returns c = counts_once
