use Rattle.dfa.proofs.Std.{◌++◌, List, drop}
use Rattle.dfa.proofs.Common.{Tree, AreTreesOf}
use Rattle.dfa.proofs.build.trees_of.Given as goal

abbrev pub invariant-loop-pattern : goal.invariant-loop-pattern
invariant-loop-pattern l = (more : List Tree) → AreTreesOf (drop l.pattern-index l.patterns) more → AreTreesOf l.patterns (l.trees.items ++ more)
