use Rattle.patterns.proofs.Unique.{one_meaning}
use Rattle.patterns.proofs.laws.one_text_has_one_meaning.Goals as goal

pub returns : goal.returns
returns c = λ t e f u s r. one_meaning t e f s r u
