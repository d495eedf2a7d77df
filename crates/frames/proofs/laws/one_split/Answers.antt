use Rattle.frames.proofs.LongerStreams.{one_split, some_split}
use Rattle.frames.proofs.laws.one_split.Goals as goal

pub returns-clause-some : goal.returns-clause-some
returns-clause-some c = some_split

pub returns-clause-at_most_one : goal.returns-clause-at_most_one
returns-clause-at_most_one c = one_split
