use Rattle.item_sets.proofs.Std.{◌≡◌, ◌<◌, ◌≤◌, ◌+◌, ◌-◌, ℕ, true, All, length, slice_index_or}
use Rattle.item_sets.proofs.Common.{Entry, after_dot, marked, AreMarked, CallFor, IsCalledFor, IsExpanded, IsGrownBy, unmarked_in}
use Rattle.item_sets.proofs.FirstKernel.{start_item}
use Rattle.item_sets.proofs.worklist.Worklist.insert_all.Given as goal

abbrev pub invariant-loop-item : goal.invariant-loop-item
invariant-loop-item l =
    let g = l.fn.self.grammar.grammar in
    IsGrownBy (λ n k. (i : ℕ) × (i < l.item-index) × CallFor g (after_dot g (slice_index_or l.kernel i start_item)) (slice_index_or l.kernel i start_item).look n k) l.fn.self l.self

abbrev pub invariant-loop-i : goal.invariant-loop-i
invariant-loop-i l =
    let g = l.fn.self.grammar in
    record {
      grammar : l.self.grammar ≡ g;
      begun : All (λ i. AreMarked g l.self.rows (CallFor g.grammar (after_dot g.grammar i) i.look)) l.kernel;
      sound : (n k : ℕ) → marked l.self.rows n k ≡ true → IsCalledFor g.grammar l.kernel n k;
      within : l.i ≤ length l.self.list;
      expanded : (j : ℕ) (d : Entry) → j < l.i → AreMarked g l.self.rows (IsExpanded g.grammar (slice_index_or l.self.list j d).nonterminal (slice_index_or l.self.list j d).column);
    }

abbrev pub decreases-loop-i : goal.decreases-loop-i
decreases-loop-i l = (length l.self.list + unmarked_in l.self.rows) - l.i
