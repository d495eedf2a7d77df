use Rattle.std.proofs.Common.{◌≡◌, ◌≤◌, length, vec_len}
use Rattle.outline.proofs.found.Found.depth_at.Given as goal

abbrev pub invariant-loop-place : goal.invariant-loop-place
invariant-loop-place l = record {
  fewer : length l.self.around.items ≤ length l.initial.self.around.items;
  same : l.self.symbols ≡ l.initial.self.symbols;
}

abbrev pub decreases-loop-place : goal.decreases-loop-place
decreases-loop-place l = vec_len l.self.around
