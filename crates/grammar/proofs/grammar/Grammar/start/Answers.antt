use Rattle.std.proofs.Common.{rules}
use Rattle.grammar.proofs.grammar.Grammar.start.Goals as goal

pub returns-clause-start : goal.returns-clause-start
returns-clause-start c = search rules
