use Rattle.std.proofs.Common.{rules}
use Rattle.server.proofs.state.Server.on_notification.Goals as goal

pub returns-in-Ready-Malformed-clause-step : goal.returns-in-Ready-Malformed-clause-step
returns-in-Ready-Malformed-clause-step c = search rules
