use Rattle.definitions.proofs.TokensLocal.{IsToken-local}
use Rattle.definitions.proofs.laws.token_is_local.Goals as goal

pub returns : goal.returns
returns c = λ rules t u x h same. IsToken-local rules t u x same h
