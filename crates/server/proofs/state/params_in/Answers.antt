use Rattle.std.proofs.Common.{rules}
use Rattle.server.proofs.state.params_in.Goals as goal

pub returns-in-New-false : goal.returns-in-New-false
returns-in-New-false c = search rules

pub returns-in-Ready-true : goal.returns-in-Ready-true
returns-in-Ready-true c = search rules
