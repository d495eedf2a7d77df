use Rattle.grammar_file.proofs.Std.{◌≡◌, ◌+◌, ◌*◌, ◌≤◌, ◌++◌, take, flat_map}
use Rattle.grammar_file.proofs.Common.{added, texts, lines_view, AreNames}
use Rattle.grammar_file.proofs.written_out.write_out.Given as goal

abbrev pub invariant-loop-word : goal.invariant-loop-word
invariant-loop-word l = record {
  statements : lines_view l.statements.items ≡ lines_view l.fn.statements.items ++ flat_map added (texts (take l.word-index l.word-items));
  names : AreNames l.names (lines_view l.statements.items);
  few : l.names.productions ≤ 1024 + 2 * l.word-index;
}
