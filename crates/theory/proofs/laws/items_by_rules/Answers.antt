use Rattle.theory.proofs.Rules.{rules_valid, valid_rules}
use Rattle.theory.proofs.laws.items_by_rules.Goals as goal

pub returns : goal.returns
returns c = λ g prefix i. ((λ r. rules_valid g r), (λ v. valid_rules g prefix i v))
