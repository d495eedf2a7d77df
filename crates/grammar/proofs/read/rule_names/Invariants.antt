use Rattle.grammar.proofs.Std.{◌≡◌, take, map, chars}
use Rattle.grammar.proofs.Common.{rule_line}
use Rattle.grammar.proofs.read.rule_names.Given as goal

abbrev pub invariant-loop-rule : goal.invariant-loop-rule
invariant-loop-rule l = l.names.items ≡ map chars (map (λ r. r.name) (map rule_line (take l.rule-index l.rules)))
