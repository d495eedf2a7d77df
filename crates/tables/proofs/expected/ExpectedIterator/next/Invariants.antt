use Rattle.tables.proofs.Std.{◌≡◌, ◌-◌, length, drop}
use Rattle.tables.proofs.Common.{in_file_order, rules_with_move}
use Rattle.tables.proofs.expected.ExpectedIterator.next.Given as goal

-- what is left to list is what was left
abbrev pub invariant-loop-self : goal.invariant-loop-self
invariant-loop-self l = in_file_order (rules_with_move l.self-inside.rule (drop l.self-inside.rule l.self-inside.moves)) l.self-inside.at_end ≡ l.fn.self

abbrev pub decreases-loop-self : goal.decreases-loop-self
decreases-loop-self l = length l.self-inside.moves - l.self-inside.rule
