use Rattle.frames.proofs.Std.{sym, arith, take_all}
use Rattle.frames.proofs.header.longest_header_of.Goals as goal

pub returns-then-bytes-lt-LONGEST_HEADER : goal.returns-then-bytes-lt-LONGEST_HEADER
returns-then-bytes-lt-LONGEST_HEADER c = sym (take_all 4096 c.args.bytes.now (omega arith))
