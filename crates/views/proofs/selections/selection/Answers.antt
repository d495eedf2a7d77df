use Rattle.views.proofs.Std.{ap, ◌≤◌, map, sym, ◌∙◌, subst, arith, All, length, count_by, reverse, IfOk-weaker}
use Rattle.views.proofs.Common.{range_of, FileGrammar, is_significant, plain, IsAround, IsSpanOf, placed_parts}
use Rattle.views.proofs.SelectionOfOffset.{roots_fit, spans_stand, selected_roots}
use Rattle.views.proofs.selections.selection.Goals as goal

pub spans_around-requires-clause-fits : goal.spans_around-requires-clause-fits
spans_around-requires-clause-fits c =
    let short : length c.args.text.now ≤ 1073741824 = omega (arith, c.len.ensures.count, c.len.ensures.few) in
    roots_fit c.args.unit c.requires.0 c.args.text.now c.args.tokens.now.items c.args.store.now c.args.roots.now c.requires.1 c.requires.2 short

pub selection_offsets-requires : goal.selection_offsets-requires
selection_offsets-requires c =
    let short : length c.args.text.now ≤ 1073741824 = omega (arith, c.len.ensures.count, c.len.ensures.few) in
    let file : FileGrammar = c.requires.0 in
    let around : IsAround (placed_parts file (map plain c.args.tokens.now.items)) c.args.offset c.point_of.result.reached c.point_of.result.first =
    c.point_of.ensures.around file c.args.text.now c.requires.1 short in
    subst (All (IsSpanOf (count_by is_significant c.args.tokens.now.items))) (sym (c.deref.ensures.value ∙ c.in_ok-spans.ensures))
    (spans_stand c.args.unit file c.args.text.now c.args.tokens.now.items c.args.store.now c.args.roots.now c.requires.1
    c.requires.2 c.args.offset c.point_of.result.reached c.point_of.result.first around)

pub returns : goal.returns
returns c = λ file h r.
    let short : length c.args.text.now ≤ 1073741824 = omega (arith, c.len.ensures.count, c.len.ensures.few) in
    let around : IsAround (placed_parts file (map plain c.args.tokens.now.items)) c.args.offset c.point_of.result.reached c.point_of.result.first =
    c.point_of.ensures.around file c.args.text.now h short in
    let spans = c.deref.ensures.value ∙ c.in_ok-spans.ensures in
    IfOk-weaker c.ranges_of.result _ _
    (λ ranges is. selected_roots c.args.unit file c.args.text.now c.args.tokens.now.items c.args.store.now c.args.roots.now h r c.args.offset c.point_of.result.reached
    c.point_of.result.first around c.len.result c.deref.result.now c.in_ok-offsets.offsets.items c.len.ensures.count spans (c.in_ok-offsets.ensures file.skips h.marked) ranges.items
    (is ∙ ap (λ ss. reverse (map (range_of c.args.unit c.args.text.now) ss)) c.deref-2.ensures.value))
    c.ranges_of.ensures
