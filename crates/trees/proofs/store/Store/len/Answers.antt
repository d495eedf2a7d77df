use Rattle.std.proofs.Common.{rules}
use Rattle.trees.proofs.store.Store.len.Goals as goal

pub returns-clause-is : goal.returns-clause-is
returns-clause-is c = search rules
