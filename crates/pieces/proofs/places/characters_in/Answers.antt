use Rattle.std.proofs.Common.{rules}
use Rattle.pieces.proofs.places.characters_in.Goals as goal

pub returns-in-Filled : goal.returns-in-Filled
returns-in-Filled c = search rules
