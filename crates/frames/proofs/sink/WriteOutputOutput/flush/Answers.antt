use Rattle.std.proofs.Common.{rules}
use Rattle.frames.proofs.sink.WriteOutputOutput.flush.Goals as goal

pub returns-in-Ok-clause-cause : goal.returns-in-Ok-clause-cause
returns-in-Ok-clause-cause g c = search rules
