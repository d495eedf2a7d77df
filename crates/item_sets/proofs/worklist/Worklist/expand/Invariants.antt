use Rattle.item_sets.proofs.Std.{◌<◌, ℕ, slice_index_or}
use Rattle.item_sets.proofs.Common.{right_of, lookahead_at, IsGrownBy, CallFor}
use Rattle.item_sets.proofs.worklist.Worklist.expand.Given as goal

abbrev pub invariant-loop-p : goal.invariant-loop-p
invariant-loop-p l =
    let g = l.fn.self.grammar.grammar in
    IsGrownBy (λ n k. (i : ℕ) × (i < l.p-index) × CallFor g (right_of g (slice_index_or l.p-items i 0)) (lookahead_at l.entry.column) n k) l.fn.self l.self
