use Rattle.pieces.proofs.Std.{◌≡◌, ◌≤◌, take}
use Rattle.pieces.proofs.Common.{sums_of, joined, line_sums, ascii_units}
use Rattle.pieces.proofs.sums.of_ascii.Given as goal

abbrev pub invariant-loop-byte : goal.invariant-loop-byte
invariant-loop-byte l = record { few : l.line ≤ l.byte-index; summed : joined l.sums (line_sums (ascii_units l.line)) ≡ sums_of (take l.byte-index l.text) }
