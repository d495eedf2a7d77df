use Rattle.dfa.proofs.Std.{◌≡◌, ℕ, ◌<◌, length, slice_index_or}
use Rattle.dfa.proofs.Common.{part}
use Rattle.dfa.proofs.build.ascii_parts.Given as goal

abbrev pub invariant-loop-code : goal.invariant-loop-code
invariant-loop-code l = (length l.parts.items ≡ l.code) × ((c : ℕ) → c < l.code → slice_index_or l.parts.items c 0 ≡ part l.starts c)
