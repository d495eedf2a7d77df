use Rattle.std.proofs.Common.{rules}
use Rattle.commands.proofs.tasks.outcome_report.Goals as goal

pub returns : goal.returns
returns c = search rules
