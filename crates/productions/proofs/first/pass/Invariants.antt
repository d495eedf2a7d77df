use Rattle.productions.proofs.Std.{◌≡◌, ◌<◌, ◌≤◌, ℕ, List, length, slice_index_or, true, false}
use Rattle.productions.proofs.Common.{Symbol, HasProduction, AreTrue, holds_by, unmarked}
use Rattle.productions.proofs.first.pass.Given as goal

abbrev pub invariant-loop-index : goal.invariant-loop-index
invariant-loop-index l = record {
  wide : length l.marks ≡ l.productions.nonterminals;
  held : AreTrue l.productions.grammar l.look l.marks;
  closed : l.changed ≡ false → (p n : ℕ) (right : List Symbol) → p < l.index → HasProduction l.productions.grammar p n right
      → holds_by l.look l.nullable l.marks right ≡ true → slice_index_or l.marks n false ≡ true;
  at_most : unmarked l.marks ≤ unmarked l.initial.marks;
  fewer : l.changed ≡ true → unmarked l.marks < unmarked l.initial.marks;
}
