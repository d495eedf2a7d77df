use Rattle.dfa.proofs.PrefixEnds.{prefix_of, stand_of}
use Rattle.dfa.proofs.laws.positions_are_of_prefixes.Goals as goal

pub returns-clause-prefix : goal.returns-clause-prefix
returns-clause-prefix c = prefix_of

pub returns-clause-stands : goal.returns-clause-stands
returns-clause-stands c = stand_of
