use Rattle.std.proofs.Common.{rules}
use Rattle.trees.proofs.store.Store.tokens_of.Goals as goal

pub returns-in-Token : goal.returns-in-Token
returns-in-Token c = search rules
