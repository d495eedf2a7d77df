use Rattle.runs.proofs.Std.{arith, refl, [], sym, ap, ◌∙◌, ◌≡◌, ◌-◌, ◌≤◌, length, take, drop, Some, None, slice_get, option_copied}
use Rattle.runs.proofs.Common.{most, flattened, within_chunks, inside, cut_in, cut_at_end}
use Rattle.runs.proofs.Totals.{prefix, total-sum, items_before, starts_before, ends_after}
use Rattle.runs.proofs.cuts.cut_with_sum.Goals as goal

pub overflow_sub-offset : goal.overflow_sub-offset
overflow_sub-offset g c =
    let m = g.T.Measured.measure in
    let laws = g.met.T.Sum.Monoid.laws in
    let runs = c.args.runs.now in
    let place = c.find-found.result.place in
    let few : length (flattened runs) ≤ most = omega (arith, c.requires.counted) in
    let starts = starts_before m laws runs few c.args.offset place c.find-found.ensures.not_before in
    let count : c.find-found.result.before.items ≡ length (prefix runs place) = ap (λ s. s.items) c.find-found.ensures.before ∙ items_before m laws runs few c.args.offset place in
    omega (arith, starts, count)

pub split_at-requires : goal.split_at-requires
split_at-requires g c =
    let m = g.T.Measured.measure in
    let laws = g.met.T.Sum.Monoid.laws in
    let runs = c.args.runs.now in
    let place = c.find-found.result.place in
    let run = c.in-Some.run'.now in
    let at : Some run ≡ slice_get runs place = ap option_copied (sym c.in-Some.is) ∙ c.find-found.ensures.item in
    let few : length (flattened runs) ≤ most = omega (arith, c.requires.counted) in
    let starts = starts_before m laws runs few c.args.offset place c.find-found.ensures.not_before in
    let ends = ends_after m laws runs few c.args.offset place (c.find-found.ensures.reached (within_chunks runs place run at)) in
    let count : c.find-found.result.before.items ≡ length (prefix runs place) = ap (λ s. s.items) c.find-found.ensures.before ∙ items_before m laws runs few c.args.offset place in
    omega (arith, count, inside (λ r. r) runs place run at c.args.offset starts ends, ap length c.items.ensures.same)

pub returns-clause-cut : goal.returns-clause-cut
returns-clause-cut g c =
    let m = g.T.Measured.measure in
    let laws = g.met.T.Sum.Monoid.laws in
    let runs = c.args.runs.now in
    let place = c.find-found.result.place in
    let o = c.args.offset in
    let run = c.in-Some.run'.now in
    let at : Some run ≡ slice_get runs place = ap option_copied (sym c.in-Some.is) ∙ c.find-found.ensures.item in
    let few : length (flattened runs) ≤ most = omega (arith, c.requires.counted) in
    let starts = starts_before m laws runs few o place c.find-found.ensures.not_before in
    let ends = ends_after m laws runs few o place (c.find-found.ensures.reached (within_chunks runs place run at)) in
    let count : c.find-found.result.before.items ≡ length (prefix runs place) = ap (λ s. s.items) c.find-found.ensures.before ∙ items_before m laws runs few o place in
    let same = c.items.ensures.same in
    cut_in (λ r. r) runs place run at o starts ends c.split_at.result.0.now c.split_at.result.1.now (c.split_at.ensures.front ∙ (λ i. take (o - count i) (same i)))
    (c.split_at.ensures.back ∙ (λ i. drop (o - count i) (same i)))

pub returns-in_default-clause-cut : goal.returns-in_default-clause-cut
returns-in_default-clause-cut g c =
    let m = g.T.Measured.measure in
    let laws = g.met.T.Sum.Monoid.laws in
    let runs = c.args.runs.now in
    let place = c.find-found.result.place in
    let o = c.args.offset in
    let none : slice_get runs place ≡ None = sym c.find-found.ensures.item ∙ ap option_copied c.in_default.is in
    let few : length (flattened runs) ≤ most = omega (arith, c.requires.counted) in
    let starts = starts_before m laws runs few o place c.find-found.ensures.not_before in
    cut_at_end (λ r. r) runs o place none starts [] [] c.find-found.ensures.within refl refl

pub returns-clause-sum : goal.returns-clause-sum
returns-clause-sum g c = ap (λ s. s.sum) c.find-found.ensures.before ∙ total-sum g.T.Measured.measure g.met.T.Sum.Monoid.laws (take c.find-found.result.place c.args.runs.now)

pub returns-in_default-clause-sum : goal.returns-in_default-clause-sum
returns-in_default-clause-sum g c = ap (λ s. s.sum) c.find-found.ensures.before ∙ total-sum g.T.Measured.measure g.met.T.Sum.Monoid.laws (take c.find-found.result.place c.args.runs.now)
