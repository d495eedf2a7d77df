use Rattle.std.proofs.Common.{rules}
use Rattle.text.proofs.places.Places.position.Goals as goal

pub returns : goal.returns
returns c = search rules
