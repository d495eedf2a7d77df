use Rattle.productions.proofs.Std.{rules, ◌≡◌, ◌<◌, ◌∷◌, ◌++◌, [], length, slice_index_or, slice_set, length-set, sym, subst, ap, ◌∙◌, get_or_default}
use Rattle.productions.proofs.Common.{left_of, right_of}
use Rattle.productions.proofs.Lefts.{after, theirs_more, all_more, rising_more}
use Rattle.productions.proofs.Numbers.{has_production}
use Rattle.productions.proofs.augmented.by_left.Goals as goal

pub loop-index-preserved : goal.loop-index-preserved
loop-index-preserved c =
    let g = c.args.productions.now.grammar in
    let at = c.loop-index.index in
    let rows = c.loop-index.buckets.items in
    let i = c.loop-index.invariant in
    let left : c.left.result ≡ left_of g at = c.left.ensures in
    let below : at < length g.productions = search rules in
    let within : left_of g at < length rows = subst (λ n. left_of g at < n) (sym i.wide) (c.requires.left at (left_of g at) (right_of g at) (has_production g at below)) in
    let there : c.left.result < length rows = subst (λ n. n < length rows) (sym left) within in
    let row : c.add.new.self ≡ slice_index_or rows (left_of g at) [] ++ at ∷ [] = c.in_ok-add.ensures
    ∙ ap (λ r. r ++ at ∷ []) (c.index_mut-bucket.ensures.value ∙ get_or_default rows c.left.result c.index_mut-bucket.result.now [] there ∙ ap (λ n. slice_index_or rows n []) left) in
    let same : slice_set rows c.left.result c.add.new.self ≡ after (left_of g) rows at within = λ k. slice_set rows (left k) (row k) in
    rw same (record {
      wide = length-set rows (left_of g at) (slice_index_or rows (left_of g at) [] ++ at ∷ []) ∙ i.wide;
      theirs = theirs_more (left_of g) rows at within i.theirs;
      all = all_more (left_of g) rows at within i.all;
      rising = rising_more (left_of g) rows at within i.theirs i.rising;
    })
