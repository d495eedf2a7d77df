use Rattle.frames.proofs.HeaderPart.{size_iff, none_whole}
use Rattle.frames.proofs.laws.shortest_header_part.Goals as goal

pub returns-clause-found : goal.returns-clause-found
returns-clause-found c = size_iff

pub returns-clause-none : goal.returns-clause-none
returns-clause-none c = none_whole
