use Rattle.dfa.proofs.Std.{◌≡◌, ◌-◌, ℕ, List, length}
use Rattle.dfa.proofs.Common.{Expression, AreBlank, all_counts, AreRows, AreRules, members}
use Rattle.dfa.proofs.states.States.add_rows.Given as goal

abbrev pub invariant-rows : goal.invariant-rows
invariant-rows l = record {
  rows : (rules : List Expression) (starts : List ℕ) → AreRules rules starts l.trees l.parts
      → AreRows rules starts (members l.fn.self.sets.keys) l.fn.self.next.items l.fn.self.accepts.items → AreRows rules starts (members l.self.sets.keys) l.self.next.items l.self.accepts.items;
  blank : AreBlank l.marks.items;
  all : length l.marks.items ≡ all_counts l.trees;
}

abbrev pub decreases-rows : goal.decreases-rows
decreases-rows l = 4096 - length l.self.accepts.items
