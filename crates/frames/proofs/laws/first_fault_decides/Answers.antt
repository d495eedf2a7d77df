use Rattle.frames.proofs.FirstFault.{decides}
use Rattle.frames.proofs.laws.first_fault_decides.Goals as goal

pub returns : goal.returns
returns c = decides
