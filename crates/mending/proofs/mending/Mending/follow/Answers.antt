use Rattle.std.proofs.Common.{subst}
use Rattle.mending.proofs.Mended.{unrepaired}
use Rattle.mending.specs.Mendings.{IsMendingOf}
use Rattle.mending.proofs.mending.Mending.follow.Goals as goal

pub returns-then-branch-clause-sentence : goal.returns-then-branch-clause-sentence
returns-then-branch-clause-sentence g c =
    let t = c.args.tables.now in
    let new = c.catch_up.new.self in
    let mended = c.in_ok-catch_up.ensures c.if-branch.true in
    unrepaired t (g.K.Kinds.kinds c.args.kinds.now) new (subst (λ l. IsMendingOf t l new) c.in_ok-copied.ensures mended)
