use Rattle.std.proofs.Common.{◌≡◌, vec_len}
use Rattle.settings.proofs.guesses.rule_texts.Given as goal

abbrev pub invariant-loop-pattern : goal.invariant-loop-pattern
invariant-loop-pattern l = vec_len l.texts ≡ l.pattern-index
