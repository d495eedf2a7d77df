use Rattle.theory.proofs.Knuth.{lr1_no_conflict}
use Rattle.theory.proofs.laws.lr1_no_conflict.Goals as goal

pub returns : goal.returns
returns c = λ g productive distinct lr1. lr1_no_conflict g lr1 productive distinct
