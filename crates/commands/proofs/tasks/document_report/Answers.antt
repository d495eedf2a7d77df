use Rattle.std.proofs.lemmas.Result.{IfOk-weaker}
use Rattle.commands.proofs.tasks.document_report.Goals as goal

pub returns : goal.returns
returns c = IfOk-weaker c.outcome_report.result _ _ (λ printed prints. (c.in_ok-outcome.field-0, c.in_ok-outcome.ensures, prints)) c.outcome_report.ensures
