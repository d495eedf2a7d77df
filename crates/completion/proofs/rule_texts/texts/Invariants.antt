use Rattle.completion.proofs.Std.{◌<◌, ◌≡◌, ℕ, None, false, get_or, vec_len}
use Rattle.completion.specs.Texts.{IsTextOf}
use Rattle.completion.proofs.rule_texts.texts.Given as goal

abbrev pub invariant-loop-rule : goal.invariant-loop-rule
invariant-loop-rule l = record {
  len : vec_len l.texts ≡ l.rule;
  each : (k : ℕ) → k < l.rule → IsTextOf (get_or l.grammar.skips k false) (get_or l.settings.texts.items k None) (get_or l.texts.items k None);
}
