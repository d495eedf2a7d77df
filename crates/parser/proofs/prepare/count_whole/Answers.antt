use Rattle.parser.proofs.Std.{◌≡◌, ◌+◌, ◌<◌, ℕ, List, length, take, get_or, refl, sym, ap, ◌∙◌, subst, arith, take_more}
use Rattle.parser.proofs.Common.{place_of, Rule, Child, Token, Cell, below-at, kinds_in, plain_of}
use Rattle.parser.proofs.Cuts.{counted, counted_in, place_push}
use Rattle.parser.proofs.prepare.count_whole.Goals as goal

one_more : (cells : List Cell) (cs : List Child) (w i : ℕ) (d : Child) → w ≡ i → i < length cs
    → place_of (plain_of cells (take (w + 1) cs)) ≡ place_of (plain_of cells (take w cs)) + kinds_in cells (get_or cs i d)
one_more cells cs w i d e l =
    subst (λ j. place_of (plain_of cells (take (j + 1) cs)) ≡ place_of (plain_of cells (take j cs)) + kinds_in cells (get_or cs i d)) (sym e)
    (ap (λ k. place_of (plain_of cells k)) (take_more cs i d l) ∙ place_push cells (take i cs) (get_or cs i d))

pub tokens_of-count-requires : goal.tokens_of-count-requires
tokens_of-count-requires c = below-at _ c.args.children.now c.loop-child.child-index _ _ c.requires.below c.loop-child-test.true refl

pub loop-child-preserved : goal.loop-child-preserved
loop-child-preserved c =
    let cells = c.args.store.now in
    let all = c.args.children.now in
    let child : Child = get_or all c.loop-child.child-index (Token (Rule 0)) in
    let count : c.tokens_of-count.result ≡ kinds_in cells child = c.tokens_of-count.ensures ∙ counted (kinds_in cells child)
    (omega (arith, c.requires.countable, counted_in cells all c.loop-child.child-index (Token (Rule 0)) c.loop-child-test.true)) in
    let more = one_more cells all c.loop-child.whole c.loop-child.child-index (Token (Rule 0)) c.loop-child.invariant.whole c.loop-child-test.true in
    record { whole = omega (arith, c.loop-child.invariant.whole); left = omega (arith, more, count, c.loop-child.invariant.left, c.if-count-left.false) }
