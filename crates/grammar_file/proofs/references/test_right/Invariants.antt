use Rattle.grammar_file.proofs.Std.{◌≡◌, drop, List, map}
use Rattle.grammar_file.proofs.Common.{plain, Statement, right_fault, texts, AreNames}
use Rattle.grammar_file.proofs.references.test_right.Given as goal

abbrev pub invariant-loop-word : goal.invariant-loop-word
invariant-loop-word l = (ss : List Statement) → AreNames l.names ss → right_fault ss (map plain (texts l.right)) ≡ right_fault ss (map plain (texts (drop l.word-index l.right)))
