use Rattle.ide.proofs.TheCores.{each_run}
use Rattle.ide.proofs.laws.each_run_is_the_cores.Goals as goal

pub returns : goal.returns
returns c = each_run
