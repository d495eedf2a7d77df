use Rattle.theory.proofs.Knuth.{no_conflict_lr1}
use Rattle.theory.proofs.laws.no_conflict_lr1.Goals as goal

pub returns : goal.returns
returns c = λ g free. no_conflict_lr1 g free
