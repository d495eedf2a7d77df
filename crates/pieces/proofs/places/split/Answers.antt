use Rattle.pieces.proofs.Std.{sym, ap, ◌∙◌, take, drop, chars}
use Rattle.pieces.proofs.Common.{units, Utf8}
use Rattle.pieces.proofs.Borders.{border}
use Rattle.pieces.proofs.places.split.Goals as goal

pub split_at-requires : goal.split_at-requires
split_at-requires c =
    (border c.text.result.now c.args.count c.prefix_bytes.result c.text.utf8 (c.prefix_bytes.ensures ∙ ap (λ t. units Utf8 (take c.args.count t)) (sym c.text.ensures.characters))).boundary

pub returns-clause-prefix : goal.returns-clause-prefix
returns-clause-prefix c = ap chars c.split_at.ensures.front ∙
    (border c.text.result.now c.args.count c.prefix_bytes.result c.text.utf8 (c.prefix_bytes.ensures ∙ ap (λ t. units Utf8 (take c.args.count t)) (sym c.text.ensures.characters))).prefix
    ∙ ap (take c.args.count) c.text.ensures.characters

pub returns-clause-back : goal.returns-clause-back
returns-clause-back c = ap chars c.split_at.ensures.back ∙
    (border c.text.result.now c.args.count c.prefix_bytes.result c.text.utf8 (c.prefix_bytes.ensures ∙ ap (λ t. units Utf8 (take c.args.count t)) (sym c.text.ensures.characters))).back
    ∙ ap (drop c.args.count) c.text.ensures.characters
