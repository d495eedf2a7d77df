use Rattle.grammar_file.proofs.Std.{◌≡◌, take}
use Rattle.grammar_file.proofs.Common.{with_marked, texts}
use Rattle.grammar_file.proofs.names.add_marked.Given as goal

abbrev pub invariant-loop-word : goal.invariant-loop-word
invariant-loop-word l = l.marked ≡ with_marked l.fn.marked (texts (take l.word-index l.words))
