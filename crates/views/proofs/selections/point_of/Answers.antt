use Rattle.views.proofs.Std.{sym, ◌∙◌, subst, not-true, not-false}
use Rattle.views.proofs.LocatedOffset.{IsLocated, point_inside, point_skipped, point_after}
use Rattle.views.proofs.selections.point_of.Goals as goal

pub returns-in-Some-clause-around : goal.returns-in-Some-clause-around
returns-in-Some-clause-around c = λ file t h short.
    let found : IsLocated c.items.result.now c.args.offset c.locate-place.result.0 c.locate-place.result.1 =
    record { within = c.locate-place.ensures.within; sum = c.locate-place.ensures.before; not_before = c.locate-place.ensures.not_before; reached = c.locate-place.ensures.reached } in
    let located = subst (λ xs. IsLocated xs c.args.offset c.locate-place.result.0 c.locate-place.result.1) c.items.ensures found in
    point_inside file t c.args.tokens.now.items h short c.args.offset c.locate-place.result.0 c.locate-place.result.1 located c.in-Some.token
    (sym c.token.ensures ∙ c.in-Some.is) (not-true c.in-Some.token.skipped c.if-not-token.true)

pub returns-in_default-clause-around : goal.returns-in_default-clause-around
returns-in_default-clause-around c = λ file t h short.
    let found : IsLocated c.items.result.now c.args.offset c.locate-place.result.0 c.locate-place.result.1 =
    record { within = c.locate-place.ensures.within; sum = c.locate-place.ensures.before; not_before = c.locate-place.ensures.not_before; reached = c.locate-place.ensures.reached } in
    let located = subst (λ xs. IsLocated xs c.args.offset c.locate-place.result.0 c.locate-place.result.1) c.items.ensures found in
    point_skipped file t c.args.tokens.now.items h short c.args.offset c.locate-place.result.0 c.locate-place.result.1 located c.in-Some.token
    (sym c.token.ensures ∙ c.in-Some.is) (not-false c.in-Some.token.skipped c.if-not-token.false)

pub returns-in_default-2-clause-around : goal.returns-in_default-2-clause-around
returns-in_default-2-clause-around c = λ file t h short.
    let found : IsLocated c.items.result.now c.args.offset c.locate-place.result.0 c.locate-place.result.1 =
    record { within = c.locate-place.ensures.within; sum = c.locate-place.ensures.before; not_before = c.locate-place.ensures.not_before; reached = c.locate-place.ensures.reached } in
    let located = subst (λ xs. IsLocated xs c.args.offset c.locate-place.result.0 c.locate-place.result.1) c.items.ensures found in
    point_after file t c.args.tokens.now.items h short c.args.offset c.locate-place.result.0 c.locate-place.result.1 located (sym c.token.ensures ∙ c.in_default.is)
