use Rattle.std.proofs.Common.{rules}
use Rattle.text.proofs.document.Text.offset.Goals as goal

pub returns-clause-is : goal.returns-clause-is
returns-clause-is c = search rules
