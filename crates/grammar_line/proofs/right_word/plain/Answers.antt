use Rattle.std.proofs.Common.{rules}
use Rattle.grammar_line.proofs.right_word.plain.Goals as goal

pub returns : goal.returns
returns c = search rules
