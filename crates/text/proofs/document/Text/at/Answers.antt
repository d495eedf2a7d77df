use Rattle.std.proofs.Common.{rules}
use Rattle.text.proofs.document.Text.at.Goals as goal

pub returns : goal.returns
returns c = search rules
