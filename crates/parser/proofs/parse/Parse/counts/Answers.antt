use Rattle.std.proofs.Common.{rules}
use Rattle.parser.proofs.parse.Parse.counts.Goals as goal

pub returns-clause-branches : goal.returns-clause-branches
returns-clause-branches c = search rules

pub returns-clause-built : goal.returns-clause-built
returns-clause-built c = search rules
