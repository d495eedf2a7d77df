use Rattle.tables.proofs.Total.{verdict_exists}
use Rattle.tables.proofs.laws.each_list_has_a_verdict.Goals as goal

pub returns : goal.returns
returns c = verdict_exists
