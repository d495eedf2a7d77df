use Rattle.theory.proofs.LawProofs.{reuse_is_run}
use Rattle.theory.proofs.laws.reuse_is_run.Goals as goal

pub returns : goal.returns
returns c = reuse_is_run
