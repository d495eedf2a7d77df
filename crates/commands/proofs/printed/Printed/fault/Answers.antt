use Rattle.std.proofs.Common.{rules}
use Rattle.commands.proofs.printed.Printed.fault.Goals as goal

pub returns : goal.returns
returns c = search rules
