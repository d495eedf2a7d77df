use Rattle.std.proofs.Common.{rules}
use Rattle.tables.proofs.decisions.MoveSmall.number.Goals as goal

pub returns-in-Some-Shift : goal.returns-in-Some-Shift
returns-in-Some-Shift c = search rules
