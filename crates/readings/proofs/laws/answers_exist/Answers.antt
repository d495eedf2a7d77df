use Rattle.readings.proofs.EachReadingExists.{always_answers}
use Rattle.readings.proofs.laws.answers_exist.Goals as goal

pub returns : goal.returns
returns c = always_answers
