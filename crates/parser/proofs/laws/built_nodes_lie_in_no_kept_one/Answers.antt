use Rattle.parser.proofs.Common.{one_built}
use Rattle.parser.proofs.Built.{built_counts}
use Rattle.parser.proofs.laws.built_nodes_lie_in_no_kept_one.Goals as goal

pub returns-clause-count : goal.returns-clause-count
returns-clause-count c = built_counts

pub returns-clause-unique : goal.returns-clause-unique
returns-clause-unique c s old new m n a b = one_built a b
