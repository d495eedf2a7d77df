use Rattle.grammar.proofs.Refused.{no_file}
use Rattle.grammar.proofs.grammar.Grammar.read.Goals as goal

pub returns-clause-refused : goal.returns-clause-refused
returns-clause-refused c = no_file c.args.text.now c.read.result c.read.ensures.fault
