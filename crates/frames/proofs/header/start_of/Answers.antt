use Rattle.frames.proofs.Std.{◌≡◌, length, arith, ap, ◌∙◌, min, length-take}
use Rattle.frames.proofs.header.start_of.Goals as goal

pub returns-in-Ok-clause-within : goal.returns-in-Ok-clause-within
returns-in-Ok-clause-within c =
    let bytes = c.args.bytes.now in
    let len : length c.longest_header_of-prefix.result.now ≡ min 4096 (length bytes) = ap length c.longest_header_of-prefix.ensures ∙ length-take 4096 bytes in
    (c.in-Some.ensures.low, omega (arith, len, c.in-Some.ensures.high), omega (arith, len, c.in-Some.ensures.high), c.in-Ok.ensures.bound)
