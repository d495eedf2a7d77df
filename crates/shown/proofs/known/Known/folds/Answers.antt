use Rattle.std.proofs.Common.{inr}
use Rattle.std.proofs.lemmas.Result.{IfOk-weaker}
use Rattle.shown.proofs.known.Known.folds.Goals as goal

pub returns : goal.returns
returns c = IfOk-weaker c.grown_folds.result _ _ (λ s e. (c.match-mended.more.items, inr e)) c.grown_folds.ensures
