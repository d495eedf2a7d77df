use Rattle.definitions.proofs.LawProofs.{empty_class}
use Rattle.definitions.proofs.laws.empty_class_is_reported.Goals as goal

pub returns : goal.returns
returns c = empty_class
