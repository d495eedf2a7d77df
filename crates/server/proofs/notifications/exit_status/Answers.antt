use Rattle.std.proofs.Common.{rules}
use Rattle.server.proofs.notifications.exit_status.Goals as goal

pub returns-in-Down : goal.returns-in-Down
returns-in-Down c = search rules
