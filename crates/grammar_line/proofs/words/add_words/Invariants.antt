use Rattle.grammar_line.proofs.Std.{◌≡◌, ◌++◌, take, filter}
use Rattle.grammar_line.proofs.Common.{is_filled, texts}
use Rattle.grammar_line.proofs.words.add_words.Given as goal

abbrev pub invariant-loop-word : goal.invariant-loop-word
invariant-loop-word l = texts l.found.items ≡ texts l.fn.found.items ++ filter is_filled (texts (take l.word-index l.word-items))
