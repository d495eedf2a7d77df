use Rattle.std.proofs.Common.{rules}
use Rattle.trees.proofs.children.ChildrenIterator.next.Goals as goal

pub returns-in_ok-first-in-Narrow-clause-steps : goal.returns-in_ok-first-in-Narrow-clause-steps
returns-in_ok-first-in-Narrow-clause-steps c = search rules
