use Rattle.std.proofs.Common.{rules}
use Rattle.rpc.proofs.reading.notification_of.Goals as goal

pub returns-in-text-2 : goal.returns-in-text-2
returns-in-text-2 c = search rules
