use Rattle.commands.proofs.Std.{sym, ap}
use Rattle.commands.specs.Status.{fault_of}
use Rattle.commands.proofs.fault.FaultFromRunFault.from.Goals as goal

pub returns-in-Memory : goal.returns-in-Memory
returns-in-Memory c = ap fault_of (sym c.in-Memory.is)
