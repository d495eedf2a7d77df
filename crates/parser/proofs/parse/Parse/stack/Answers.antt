use Rattle.std.proofs.Common.{rules}
use Rattle.parser.proofs.parse.Parse.stack.Goals as goal

pub returns : goal.returns
returns c = search rules
