use Rattle.theory.proofs.Theorems.{move_iff_sentence}
use Rattle.theory.proofs.laws.move_iff_sentence.Goals as goal

pub returns : goal.returns
returns c = λ g free productive. move_iff_sentence g free productive
