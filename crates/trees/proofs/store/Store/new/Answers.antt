use Rattle.std.proofs.Common.{rules}
use Rattle.trees.proofs.store.Store.new.Goals as goal

pub returns : goal.returns
returns c = search rules
