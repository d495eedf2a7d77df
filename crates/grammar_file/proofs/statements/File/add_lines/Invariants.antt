use Rattle.grammar_file.proofs.Std.{take}
use Rattle.grammar_file.proofs.Common.{statements_in, texts, IsRead}
use Rattle.grammar_file.proofs.statements.File.add_lines.Given as goal

abbrev pub invariant-loop-index : goal.invariant-loop-index
invariant-loop-index l = IsRead l.self (statements_in l.version (texts (take l.index l.lines)))
