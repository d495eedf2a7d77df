use Rattle.views.proofs.Std.{◌≡◌, true, false, List, map, sym, ap, ◌∙◌}
use Rattle.views.proofs.Common.{Placed, placed, significant, plain, is_same, offsets_of}
use Rattle.views.proofs.SpansAround.{inside_same, inside_other}
use Rattle.views.proofs.selections.spans_inside.Goals as goal

pub returns-in-Some-clause-inside : goal.returns-in-Some-clause-inside
returns-in-Some-clause-inside c = λ skips h.
    let parts : List Placed = significant skips (placed 0 (map plain c.args.tokens.now.items)) in
    let same : is_same c.args.whole (offsets_of parts c.in-Some.outer.now) ≡ true = ap (is_same c.args.whole) (sym (c.offsets_of.ensures skips h)) ∙ (sym c.eq.ensures ∙ c.if-eq.true) in
    inside_same (offsets_of parts) c.args.whole c.in-Some.outer.now c.args.spans.now c.in-Some.rest.now c.in-Some.ensures.cases.0 same

pub returns-in_default-clause-inside : goal.returns-in_default-clause-inside
returns-in_default-clause-inside c = λ skips h.
    let parts : List Placed = significant skips (placed 0 (map plain c.args.tokens.now.items)) in
    let same : is_same c.args.whole (offsets_of parts c.in-Some.outer.now) ≡ false = ap (is_same c.args.whole) (sym (c.offsets_of.ensures skips h)) ∙ (sym c.eq.ensures ∙ c.if-eq.false) in
    inside_other (offsets_of parts) c.args.whole c.in-Some.outer.now c.args.spans.now c.in-Some.rest.now c.in-Some.ensures.cases.0 same
