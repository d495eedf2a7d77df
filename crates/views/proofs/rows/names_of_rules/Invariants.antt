use Rattle.views.proofs.Std.{◌≡◌, map, take}
use Rattle.std.specs.Str.{chars}
use Rattle.std.specs.String.{string_bytes}
use Rattle.views.proofs.rows.names_of_rules.Given as goal

abbrev pub invariant-loop-rule : goal.invariant-loop-rule
invariant-loop-rule l = map (λ name. chars (string_bytes name.value)) l.names.items ≡ take l.rule l.grammar.names
