use Rattle.std.proofs.Common.{rules}
use Rattle.docs.proofs.pending.Pending.finish.Goals as goal

pub returns-clause-version : goal.returns-clause-version
returns-clause-version c = search rules
