use Rattle.definitions.proofs.TextLaws.{IsScalar-from_character, IsCharacter-from_scalar}
use Rattle.definitions.proofs.laws.characters_are_scalars.Goals as goal

pub returns : goal.returns
returns c = λ n. ((λ h. IsScalar-from_character n h), (λ h. IsCharacter-from_scalar n h))
