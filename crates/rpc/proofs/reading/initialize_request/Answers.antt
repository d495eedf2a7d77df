use Rattle.std.proofs.Common.{rules}
use Rattle.rpc.proofs.reading.initialize_request.Goals as goal

pub returns-else-is_object : goal.returns-else-is_object
returns-else-is_object c = search rules
