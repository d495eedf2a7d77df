use Rattle.std.proofs.Common.{rules}
use Rattle.docs.proofs.doc.Doc.text.Goals as goal

pub returns : goal.returns
returns c = search rules
