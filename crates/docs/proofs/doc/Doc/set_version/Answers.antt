use Rattle.std.proofs.Common.{rules}
use Rattle.docs.proofs.doc.Doc.set_version.Goals as goal

pub returns-clause-is : goal.returns-clause-is
returns-clause-is c = search rules
