use Rattle.std.proofs.Common.{rules}
use Rattle.frames.proofs.sink.WriteOutput.new.Goals as goal

pub returns-clause-works : goal.returns-clause-works
returns-clause-works g c = search rules
