use Rattle.definitions.proofs.OffsetsInLine.{offset-of_position}
use Rattle.definitions.proofs.laws.offset_of_position.Goals as goal

pub returns : goal.returns
returns c = offset-of_position
