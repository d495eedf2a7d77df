use Rattle.theory.proofs.LawProofs.{document_trees_unique}
use Rattle.theory.proofs.laws.document_trees_unique.Goals as goal

pub returns : goal.returns
returns c = document_trees_unique
