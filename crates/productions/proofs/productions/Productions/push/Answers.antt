use Rattle.std.proofs.Common.{rules}
use Rattle.productions.proofs.productions.Productions.push.Goals as goal

pub returns-clause-added : goal.returns-clause-added
returns-clause-added c = search rules
