use Rattle.std.proofs.Common.{length}
use Rattle.dfa.proofs.tree.+literal_tree.Given as goal

abbrev pub decreases-literal_tree : goal.decreases-literal_tree
decreases-literal_tree l = length l.characters.now
