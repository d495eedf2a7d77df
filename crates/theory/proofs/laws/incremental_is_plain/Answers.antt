use Rattle.theory.proofs.LawProofs.{incremental_is_plain}
use Rattle.theory.proofs.laws.incremental_is_plain.Goals as goal

pub returns : goal.returns
returns c = incremental_is_plain
