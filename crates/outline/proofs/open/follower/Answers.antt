use Rattle.std.proofs.Common.{◌++◌, ◌∷◌, [], refl}
use Rattle.definitions.specs.declared.Symbol.TheVariants.{Rule as Terminal}
use Rattle.outline.proofs.open.follower.Goals as goal

pub returns-in-Some-Shift : goal.returns-in-Some-Shift
returns-in-Some-Shift c = (
  c.requires.0 ++ Terminal c.in-Rule.rule ∷ [],
  c.action.ensures.shifts c.requires.0 c.in-Rule.rule c.in-Some-Shift.to c.requires.1 refl (cc),
)
