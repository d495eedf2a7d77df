use Rattle.std.proofs.Common.{rules}
use Rattle.tables.proofs.tables.TableFaultFromAllocError.from.Goals as goal

pub returns : goal.returns
returns c = search rules
