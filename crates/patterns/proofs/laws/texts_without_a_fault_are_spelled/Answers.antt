use Rattle.patterns.proofs.Runs.{accepted}
use Rattle.patterns.proofs.WithoutFault.{spelled}
use Rattle.patterns.proofs.laws.texts_without_a_fault_are_spelled.Goals as goal

pub returns : goal.returns
returns c = λ t chars small. (spelled t chars small, (λ (e, m, s). accepted t e s m))
