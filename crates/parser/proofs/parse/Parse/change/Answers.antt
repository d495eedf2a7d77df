use Rattle.std.proofs.Common.{rules}
use Rattle.parser.proofs.parse.Parse.change.Goals as goal

pub returns-clause-refused : goal.returns-clause-refused
returns-clause-refused g c = search rules
