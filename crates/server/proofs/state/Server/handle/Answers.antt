use Rattle.server.proofs.Shown.{shows_refused, shows_done}
use Rattle.server.proofs.state.Server.handle.Goals as goal

pub returns-clause-err : goal.returns-clause-err
returns-clause-err c = shows_refused c.step-outcome.result c.is_err-self.ensures.value

pub returns-clause-ok : goal.returns-clause-ok
returns-clause-ok c = shows_done c.step-outcome.result c.is_err-self.ensures.value
