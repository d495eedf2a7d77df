use Rattle.std.proofs.Common.{rules}
use Rattle.server.proofs.state.unknown_in.Goals as goal

pub returns-in-Down : goal.returns-in-Down
returns-in-Down c = search rules
