use Rattle.views.proofs.FoldsExist.{folds_exist}
use Rattle.views.proofs.laws.trees_have_folds.Goals as goal

pub returns : goal.returns
returns c g trees t tokens folds = folds_exist g t tokens folds trees
