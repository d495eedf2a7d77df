use Rattle.grammar_file.proofs.Std.{◌≡◌, drop, map}
use Rattle.grammar_file.proofs.Common.{plain, reserved, texts}
use Rattle.grammar_file.proofs.statements.test_words.Given as goal

abbrev pub invariant-loop-word : goal.invariant-loop-word
invariant-loop-word l = reserved (map plain (texts l.words)) ≡ reserved (map plain (texts (drop l.word-index l.words)))
