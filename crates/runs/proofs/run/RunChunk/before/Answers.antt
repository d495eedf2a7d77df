use Rattle.std.proofs.Common.{rules}
use Rattle.runs.proofs.run.RunChunk.before.Goals as goal

pub returns : goal.returns
returns g c = search rules
