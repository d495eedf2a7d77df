use Rattle.dfa.proofs.Std.{arith, common_steps}
use Rattle.dfa.proofs.Common.{marks_of}
use Rattle.dfa.proofs.Trees.{none_added}
use Rattle.dfa.proofs.tree.Tree.+follow.Goals as goal

pub returns-then-is_apart-clause-next : goal.returns-then-is_apart-clause-next
returns-then-is_apart-clause-next t c = none_added c.args.self.now (marks_of c.args.set.now) c.args.at c.args.start c.args.out.now.items (c.is_apart.ensures c.if-is_apart.true) c.requires.counted

pub returns-in_ok-second-in-Pair-true-default-default-default-clause-next : goal.returns-in_ok-second-in-Pair-true-default-default-default-clause-next
returns-in_ok-second-in-Pair-true-default-default-default-clause-next t c = grind (arith, common_steps)

pub returns-in_ok-between-in-Pair-false-default-default-default-clause-next : goal.returns-in_ok-between-in-Pair-false-default-default-default-clause-next
returns-in_ok-between-in-Pair-false-default-default-default-clause-next t c = grind (arith, common_steps)
