use Rattle.std.proofs.Common.{rules}
use Rattle.server.proofs.answers.publish.Goals as goal

pub returns : goal.returns
returns c = search rules
