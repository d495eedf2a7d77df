use Rattle.theory.proofs.OneTree.{one_tree_of_used}
use Rattle.theory.proofs.laws.one_tree_of_used.Goals as goal

pub returns : goal.returns
returns c = λ g free productive. one_tree_of_used g productive free
