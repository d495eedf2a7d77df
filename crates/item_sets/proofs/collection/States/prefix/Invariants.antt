use Rattle.item_sets.proofs.Std.{◌<◌, ◌++◌, List, length, reverse}
use Rattle.item_sets.proofs.Common.{Symbol, kernel_at, HasKernel}
use Rattle.item_sets.proofs.collection.States.prefix.Given as goal

abbrev pub invariant-loop-at : goal.invariant-loop-at
invariant-loop-at l = record {
  below : l.at < length l.self.kernels;
  leads : (prefix : List Symbol) → HasKernel l.grammar.grammar (kernel_at l.self.kernels l.at) prefix
      → HasKernel l.grammar.grammar (kernel_at l.self.kernels l.fn.state) (prefix ++ reverse l.symbols.items);
}

abbrev pub decreases-loop-at : goal.decreases-loop-at
decreases-loop-at l = l.at
