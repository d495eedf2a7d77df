use Rattle.seqtree.proofs.Std.{arith, common_steps}
use Rattle.seqtree.proofs.seq.Seq.replace.Goals as goal

pub returns-clause-list : goal.returns-clause-list
returns-clause-list g c = grind (arith, common_steps)

pub returns-clause-removed : goal.returns-clause-removed
returns-clause-removed g c = grind (arith, common_steps)

pub append-requires-2 : goal.append-requires-2
append-requires-2 g c = grind (arith, common_steps)
