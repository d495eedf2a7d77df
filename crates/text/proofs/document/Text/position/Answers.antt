use Rattle.std.proofs.Common.{rules}
use Rattle.text.proofs.document.Text.position.Goals as goal

pub returns : goal.returns
returns c = search rules
