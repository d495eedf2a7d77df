use Rattle.seqtree.proofs.tree.+last.Given as goal

abbrev pub decreases-last : goal.decreases-last
decreases-last g l = l.count
