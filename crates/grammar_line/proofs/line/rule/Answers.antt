use Rattle.std.proofs.Common.{rules}
use Rattle.grammar_line.proofs.line.rule.Goals as goal

pub returns-in-skip : goal.returns-in-skip
returns-in-skip c = search rules
