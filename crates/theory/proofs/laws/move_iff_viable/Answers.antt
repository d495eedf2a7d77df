use Rattle.theory.proofs.Theorems.{move_iff_viable}
use Rattle.theory.proofs.LawProofs.{stack_exists}
use Rattle.theory.proofs.laws.move_iff_viable.Goals as goal

pub returns-clause-reached : goal.returns-clause-reached
returns-clause-reached c = stack_exists

pub returns-clause-moves : goal.returns-clause-moves
returns-clause-moves c = λ g free productive. move_iff_viable g free productive
