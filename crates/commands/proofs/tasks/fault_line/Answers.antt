use Rattle.std.proofs.Common.{rules}
use Rattle.commands.proofs.tasks.fault_line.Goals as goal

pub returns : goal.returns
returns c = search rules
