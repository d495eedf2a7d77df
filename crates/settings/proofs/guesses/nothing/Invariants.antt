use Rattle.std.proofs.Common.{◌≡◌, All, IsNone, vec_len}
use Rattle.settings.proofs.guesses.nothing.Given as goal

abbrev pub invariant-loop-rule : goal.invariant-loop-rule
invariant-loop-rule l = record { len : vec_len l.texts ≡ l._rule; none : All IsNone l.texts.items }
