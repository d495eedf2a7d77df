use Rattle.std.proofs.Common.{◌≡◌, vec_len}
use Rattle.wording.proofs.alternatives.Expected.named.Given as goal

abbrev pub invariant-loop-rule : goal.invariant-loop-rule
invariant-loop-rule l = vec_len l.all ≡ l.rule-index
