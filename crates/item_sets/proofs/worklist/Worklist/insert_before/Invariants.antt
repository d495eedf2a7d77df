use Rattle.item_sets.proofs.Std.{◌≡◌, ◌<◌}
use Rattle.item_sets.proofs.Common.{MayFollow, lookahead_at, IsGrownBy}
use Rattle.item_sets.proofs.worklist.Worklist.insert_before.Given as goal

abbrev pub invariant-loop-column : goal.invariant-loop-column
invariant-loop-column l = IsGrownBy (λ n k. (k < l.column) × (n ≡ l.nonterminal) × MayFollow l.grammar.grammar l.after l.lookahead (lookahead_at k)) l.fn.self l.self
