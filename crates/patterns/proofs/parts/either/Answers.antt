use Rattle.std.proofs.Common.{rules}
use Rattle.patterns.proofs.parts.either.Goals as goal

pub returns : goal.returns
returns c = search rules
