use Rattle.std.proofs.Common.{rules}
use Rattle.rpc.proofs.Receiving.{received_unread}
use Rattle.rpc.proofs.reading.read.Goals as goal

pub returns-else-is_memory : goal.returns-else-is_memory
returns-else-is_memory c = search (rules, received_unread)
