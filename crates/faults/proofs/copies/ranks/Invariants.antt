use Rattle.std.proofs.Common.{◌≡◌, length}
use Rattle.faults.proofs.copies.ranks.Given as goal

abbrev pub invariant-loop-text : goal.invariant-loop-text
invariant-loop-text l = length l.ranks.items ≡ l.text-index
