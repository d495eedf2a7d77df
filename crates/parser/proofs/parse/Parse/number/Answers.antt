use Rattle.std.proofs.Common.{rules}
use Rattle.parser.proofs.parse.Parse.number.Goals as goal

pub returns : goal.returns
returns c = search rules
