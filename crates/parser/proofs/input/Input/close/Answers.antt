use Rattle.parser.proofs.Std.{subst}
use Rattle.parser.proofs.Common.{BeginsWith}
use Rattle.parser.proofs.Inputs.{begins_none, still_empty}
use Rattle.parser.proofs.input.Input.close.Goals as goal

pub returns-in_default : goal.returns-in_default
returns-in_default c before opened long first = still_empty before c.args.self.now (begins_none before (subst (BeginsWith before) c.in_default.is first)) opened
