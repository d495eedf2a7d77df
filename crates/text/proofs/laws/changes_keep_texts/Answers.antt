use Rattle.text.proofs.Common.{IsText-edit, changed, span}
use Rattle.text.proofs.laws.changes_keep_texts.Goals as goal

pub returns : goal.returns
unfolding changed
returns c = λ encoding t range s p q. IsText-edit t (span encoding t range).0 (span encoding t range).1 s p q
