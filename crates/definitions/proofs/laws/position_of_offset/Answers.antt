use Rattle.definitions.proofs.PositionOfOffset.{position-of_offset}
use Rattle.definitions.proofs.laws.position_of_offset.Goals as goal

pub returns : goal.returns
returns c = position-of_offset
