use Rattle.frames.proofs.Std.{◌≡◌, length}
use Rattle.frames.proofs.Common.{header_length, lines_length, lines_of}
use Rattle.frames.proofs.header.header_length.Given as goal

-- the lines ahead decide what the header part gives
abbrev pub invariant-loop-size : goal.invariant-loop-size
invariant-loop-size l = header_length l.part ≡ lines_length l.given (lines_of l.rest)

abbrev pub decreases-loop-size : goal.decreases-loop-size
decreases-loop-size l = length l.rest
