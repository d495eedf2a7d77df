use Rattle.std.proofs.Common.{rules}
use Rattle.docs.proofs.doc.DocFaultFromTextFault.from.Goals as goal

pub returns-in-TooLarge : goal.returns-in-TooLarge
returns-in-TooLarge c = search rules
