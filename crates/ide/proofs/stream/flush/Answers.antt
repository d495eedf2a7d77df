use Rattle.std.proofs.Common.{rules}
use Rattle.ide.proofs.stream.flush.Goals as goal

pub returns-in-Ok-clause-fault : goal.returns-in-Ok-clause-fault
returns-in-Ok-clause-fault g c = search rules
