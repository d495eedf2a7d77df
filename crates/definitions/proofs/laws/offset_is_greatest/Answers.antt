use Rattle.definitions.proofs.TextLaws.{IsOffset-offset}
use Rattle.definitions.proofs.laws.offset_is_greatest.Goals as goal

pub returns : goal.returns
returns c = IsOffset-offset
