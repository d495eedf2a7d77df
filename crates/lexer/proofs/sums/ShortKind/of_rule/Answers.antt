use Rattle.std.proofs.Common.{rules}
use Rattle.lexer.proofs.sums.ShortKind.of_rule.Goals as goal

pub overflow_cast-result : goal.overflow_cast-result
overflow_cast-result c = search rules
