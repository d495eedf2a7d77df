use Rattle.grammar.proofs.Std.{◌≡◌, take, map}
use Rattle.grammar.proofs.Common.{rule_line}
use Rattle.grammar.proofs.read.skips.Given as goal

abbrev pub invariant-loop-rule : goal.invariant-loop-rule
invariant-loop-rule l = l.skips.items ≡ map (λ r. r.skip) (map rule_line (take l.rule-index l.rules))
