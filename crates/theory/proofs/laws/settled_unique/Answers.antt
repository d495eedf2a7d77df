use Rattle.theory.proofs.Theorems.{settled_exists, settled_unique}
use Rattle.theory.proofs.laws.settled_unique.Goals as goal

pub returns-clause-exists : goal.returns-clause-exists
returns-clause-exists c = settled_exists

pub returns-clause-unique : goal.returns-clause-unique
returns-clause-unique c = λ g free. settled_unique g free
