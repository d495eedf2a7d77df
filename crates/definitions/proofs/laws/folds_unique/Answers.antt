use Rattle.definitions.proofs.Common.{IsNodeOf}
use Rattle.definitions.proofs.AnswersUnique.{AreFolds-unique}
use Rattle.definitions.proofs.laws.folds_unique.Goals as goal

pub returns : goal.returns
returns c = λ g trees t tokens folds one two. AreFolds-unique t tokens folds (IsNodeOf g trees) one two
