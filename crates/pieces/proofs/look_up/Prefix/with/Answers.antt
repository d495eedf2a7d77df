use Rattle.std.proofs.Common.{sym, ◌∙◌, ◌∷◌, ◌++◌, []}
use Rattle.pieces.proofs.KnownPrefix.{prefix-with, no_ones, ones-more}
use Rattle.pieces.proofs.look_up.Prefix.with.Goals as goal

pub returns-then-goes_on : goal.returns-then-goes_on
returns-then-goes_on c = λ s few is.
    c.with_ones.ensures c.args.unit (s ++ c.args.c ∷ []) few (ones-more c.args.unit s c.args.c c.args.self 0 few (sym c.if-goes_on.ensures) (no_ones c.args.self ∙ is))

pub returns : goal.returns
returns c = λ s few is. prefix-with c.args.unit s c.args.c c.args.self c.saturating_add.result c.end_with.result c.saturating_add.ensures (c.end_with.ensures s few is) few is
