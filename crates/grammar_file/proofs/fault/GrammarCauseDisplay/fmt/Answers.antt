use Rattle.std.proofs.Common.{rules}
use Rattle.grammar_file.proofs.fault.GrammarCauseDisplay.fmt.Goals as goal

pub returns-in-Unproductive-clause-writes : goal.returns-in-Unproductive-clause-writes
returns-in-Unproductive-clause-writes g c = search rules
