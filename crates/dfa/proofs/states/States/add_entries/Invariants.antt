use Rattle.dfa.proofs.Std.{◌≡◌, ◌≤◌, ◌<◌, ℕ, List, [], length, slice_index_or}
use Rattle.dfa.proofs.Common.{Expression, marks_of, AreEntries, AreStates, Grows, IsReached, kept, members}
use Rattle.dfa.proofs.states.States.add_entries.Given as goal

abbrev pub invariant-loop-holders : goal.invariant-loop-holders
invariant-loop-holders l = record {
  accepts : l.self.accepts ≡ l.fn.self.accepts;
  states : (rules : List Expression) → AreStates rules (members l.fn.self.sets.keys)
      → ((k : ℕ) → k < length l.parts → IsReached rules (kept (marks_of l.followers) (slice_index_or l.parts k []))) → AreStates rules (members l.self.sets.keys);
  grows : Grows (members l.fn.self.sets.keys) (members l.self.sets.keys);
  bound : length (members l.fn.self.sets.keys) ≤ 4096 → length (members l.self.sets.keys) ≤ 4096;
  entries : AreEntries l.fn.self.next.items l.self.next.items (members l.self.sets.keys) (marks_of l.followers) l.parts l.holders-index;
}
