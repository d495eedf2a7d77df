use Rattle.std.proofs.Common.{rules}
use Rattle.grammar.proofs.unproductive.first_unmarked.Goals as goal

pub loop-index-preserved : goal.loop-index-preserved
loop-index-preserved c = search rules
