use Rattle.item_sets.proofs.Std.{◌≡◌, ◌<◌, ℕ, None, length, slice_index_or}
use Rattle.item_sets.proofs.Common.{AreStates, GoesOn, IsStep, symbol_of}
use Rattle.item_sets.proofs.collection.States.gotos.Given as goal

abbrev pub invariant-loop-kernel : goal.invariant-loop-kernel
invariant-loop-kernel l = record {
  states : AreStates l.grammar l.self;
  goes_on : GoesOn l.initial.self.kernels l.self.kernels;
  filled : length l.to.items ≡ l.kernel-index;
  steps : (j : ℕ) → j < length l.to.items → IsStep l.grammar.grammar l.self.kernels l.from (symbol_of l.grammar.grammar j) (slice_index_or l.to.items j None);
}
