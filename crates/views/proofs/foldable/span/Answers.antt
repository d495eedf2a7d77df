use Rattle.std.proofs.Common.{rules}
use Rattle.views.proofs.foldable.span.Goals as goal

pub returns-then-first-last : goal.returns-then-first-last
returns-then-first-last c = search rules
