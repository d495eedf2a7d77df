use Rattle.std.proofs.Common.{rules}
use Rattle.grammar_file.proofs.written_out.add_productions.Goals as goal

pub returns-in-Any : goal.returns-in-Any
returns-in-Any c = search rules
