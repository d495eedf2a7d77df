use Rattle.std.specs.Prelude.{[], ◌∷◌, ◌^◌}
use Rattle.pieces.proofs.Joins.{turned}
use Rattle.pieces.proofs.KnownPrefix.{few_prefix, end-with_feed, end-with_return, end-with_other}
use Rattle.pieces.proofs.look_up.Prefix.end_with.Goals as goal

pub returns-then-c-eq10 : goal.returns-then-c-eq10
returns-then-c-eq10 c = λ s few is.
    let at = c.position-before.ensures c.args.unit s (c.args.c ∷ []) (few_prefix s c.args.c (2 ^ 30) few) is (turned c.args.c 10) in
    end-with_feed c.args.unit s c.args.c c.position-before.result c.saturating_add.result c.if-c-eq10.true at c.saturating_add.ensures few

pub returns-then-c-eq13 : goal.returns-then-c-eq13
returns-then-c-eq13 c = λ s few is.
    let at = c.position-before.ensures c.args.unit s (c.args.c ∷ []) (few_prefix s c.args.c (2 ^ 30) few) is (turned c.args.c 10) in
    end-with_return c.args.unit s c.args.c c.position-before.result c.if-c-eq13.true at

pub returns : goal.returns
returns c = λ s few is.
    let at = c.position-before.ensures c.args.unit s (c.args.c ∷ []) (few_prefix s c.args.c (2 ^ 30) few) is (turned c.args.c 10) in
    end-with_other c.args.unit s c.args.c c.position-before.result c.units_of.result c.saturating_add-2.result c.if-c-eq10.false c.if-c-eq13.false at c.units_of.ensures c.saturating_add-2.ensures few
