use Rattle.tables.proofs.Expectable.{expected_exists}
use Rattle.tables.proofs.laws.each_viable_list_has_expected.Goals as goal

pub returns : goal.returns
returns c = expected_exists
