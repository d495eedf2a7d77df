use Rattle.sessions.proofs.Fresh.{every_answer_is_fresh}
use Rattle.sessions.proofs.laws.every_answer_is_fresh.Goals as goal

pub returns : goal.returns
returns c = every_answer_is_fresh
