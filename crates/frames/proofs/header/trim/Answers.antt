use Rattle.frames.proofs.Std.{refl, ◌∙◌, trim_ascii_is}
use Rattle.frames.proofs.Trimmed.{trimmed_is}
use Rattle.frames.proofs.header.trim.Goals as goal

pub returns : goal.returns
returns c = trim_ascii_is c.args.value.now _ _ refl c.trim_ascii.ensures.value ∙ trimmed_is c.args.value.now c.requires
