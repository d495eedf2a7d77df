use Rattle.pieces.proofs.Std.{◌≡◌, ◌≤◌}
use Rattle.pieces.proofs.Common.{units, Utf8, sums_of, joined, line_sums, most}
use Rattle.pieces.proofs.sums.of_text.Given as goal

abbrev pub invariant-loop-c : goal.invariant-loop-c
invariant-loop-c l = units Utf8 l.yielded ≤ most → joined l.sums (line_sums l.line) ≡ sums_of l.yielded
