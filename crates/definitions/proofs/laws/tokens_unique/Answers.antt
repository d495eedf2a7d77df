use Rattle.definitions.proofs.TokensUnique.{AreTokens-unique}
use Rattle.definitions.proofs.laws.tokens_unique.Goals as goal

pub returns : goal.returns
returns c = AreTokens-unique
