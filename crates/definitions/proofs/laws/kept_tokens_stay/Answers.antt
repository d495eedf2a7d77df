use Rattle.definitions.proofs.TokensKept.{prefix_kept, tail_kept}
use Rattle.definitions.proofs.laws.kept_tokens_stay.Goals as goal

pub returns-clause-kept_before : goal.returns-clause-kept_before
returns-clause-kept_before c = λ rules t s e old new h. prefix_kept rules t s e h.inside h.inserted old new h.before h.after

pub returns-clause-rest : goal.returns-clause-rest
returns-clause-rest c = λ rules t s e old new h. tail_kept rules t s e h.inside h.inserted old new h.before h.after
