use Rattle.std.proofs.Common.{rules}
use Rattle.grammar.proofs.grammar.Grammar.is_skipped.Goals as goal

pub returns-in-Invalid : goal.returns-in-Invalid
returns-in-Invalid c = search rules
