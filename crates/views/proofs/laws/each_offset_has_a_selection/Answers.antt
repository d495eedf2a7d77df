use Rattle.views.proofs.SelectionOfOffset.{some_selection}
use Rattle.views.proofs.laws.each_offset_has_a_selection.Goals as goal

pub returns : goal.returns
returns c = λ encoding file t tokens trees symbols h roots covered o. some_selection encoding file t tokens trees symbols h roots covered o
