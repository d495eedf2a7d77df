use Rattle.theory.proofs.LawProofs.{exact}
use Rattle.theory.proofs.laws.stamps_exact.Goals as goal

pub returns : goal.returns
returns c = exact
