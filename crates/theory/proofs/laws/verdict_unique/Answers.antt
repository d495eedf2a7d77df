use Rattle.theory.proofs.LawProofs.{verdict_unique}
use Rattle.theory.proofs.laws.verdict_unique.Goals as goal

pub returns : goal.returns
returns c = verdict_unique
