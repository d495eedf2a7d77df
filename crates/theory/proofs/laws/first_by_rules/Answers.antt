use Rattle.theory.proofs.FirstLemmas.{first_of_rules, first_by_rules}
use Rattle.theory.proofs.laws.first_by_rules.Goals as goal

pub returns : goal.returns
returns c = λ g productive symbols ts roots look a. ((λ m. first_of_rules g productive symbols look a (ts, roots) m), (λ f. first_by_rules g symbols look a f))
