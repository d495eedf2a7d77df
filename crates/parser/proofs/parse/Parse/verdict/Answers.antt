use Rattle.std.proofs.Common.{rules}
use Rattle.parser.proofs.parse.Parse.verdict.Goals as goal

pub returns-in-FaultAt-default : goal.returns-in-FaultAt-default
returns-in-FaultAt-default c = search rules
