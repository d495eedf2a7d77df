use Rattle.definitions.proofs.LawProofs.{same_rules, same_end}
use Rattle.definitions.proofs.laws.expected_unique.Goals as goal

pub returns-clause-rules : goal.returns-clause-rules
returns-clause-rules c = same_rules

pub returns-clause-ends : goal.returns-clause-ends
returns-clause-ends c = same_end
