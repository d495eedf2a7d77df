use Rattle.std.proofs.Common.{rules}
use Rattle.frames.proofs.decoder.Decoder.fault.Goals as goal

pub returns : goal.returns
returns c = search rules
