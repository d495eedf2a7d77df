use Rattle.views.proofs.Std.{ap, sym}
use Rattle.views.proofs.Common.{name_or_end}
use Rattle.std.specs.Str.{chars}
use Rattle.views.proofs.diagnoses.name_or_end.Goals as goal

pub returns-in-None : goal.returns-in-None
unfolding chars
returns-in-None c = ap (name_or_end c.args.grammar.now.names) (sym c.in-None.is)
