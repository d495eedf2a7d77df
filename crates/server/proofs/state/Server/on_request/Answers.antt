use Rattle.std.proofs.Common.{rules}
use Rattle.server.proofs.state.Server.on_request.Goals as goal

pub returns-in-Ready-Shutdown-clause-step : goal.returns-in-Ready-Shutdown-clause-step
returns-in-Ready-Shutdown-clause-step c = search rules
