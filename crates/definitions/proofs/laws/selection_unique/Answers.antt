use Rattle.definitions.proofs.Common.{IsNodeOf}
use Rattle.definitions.proofs.AnswersUnique.{IsSelection-unique}
use Rattle.definitions.proofs.laws.selection_unique.Goals as goal

pub returns : goal.returns
returns c = λ g trees t tokens o one two. IsSelection-unique t tokens (IsNodeOf g trees) o one two
