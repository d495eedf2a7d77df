use Rattle.frames.proofs.LongerStreams.{goes_on_from}
use Rattle.frames.proofs.laws.streams_go_on.Goals as goal

pub returns : goal.returns
returns c = goes_on_from
