use Rattle.completion.proofs.Std.{◌≡◌, drop}
use Rattle.completion.proofs.Steps.{IsSince}
use Rattle.completion.proofs.words.start_since.Given as goal

abbrev pub invariant-loop-at : goal.invariant-loop-at
invariant-loop-at l = record { ahead : l.ahead ≡ drop l.at l.text; since : IsSince l.text l.from l.at l.start }
