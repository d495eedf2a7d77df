use Rattle.views.proofs.Std.{◌≡◌, ◌+◌, true, false, nat_lt, arith, and_from, and_left, and_right, lt-ltb, le-ltb}
use Rattle.views.proofs.Common.{is_around}
use Rattle.views.proofs.Children.{end_fits, searching_below, searching_found, searching_next}
use Rattle.views.proofs.selections.branch_around.Goals as goal
use Rattle.views.proofs.selections.branch_around.Goals.{else-start-point-via-then-start-point+else-point-end, else-start-point-via-else-start-point}

pub tokens_of-requires : goal.tokens_of-requires
tokens_of-requires c =
    searching_below _ _ _ _ _ _ c.loop-child.invariant _ _ c.in-Some.ensures.steps _ c.requires.below

pub overflow_add-end : goal.overflow_add-end
overflow_add-end c =
    omega (arith, end_fits _ _ _ _ _ _ c.loop-child.invariant _ _ c.in-Some.ensures.steps c.requires.fits _ c.tokens_of.ensures)

pub returns-then-point-end : goal.returns-then-point-end
returns-then-point-end c =
    let end = c.loop-child.start + c.tokens_of.result in
    let here : is_around c.args.point.reached c.args.point.first c.loop-child.start end ≡ true = and_from (nat_lt c.loop-child.start c.args.point.reached)
    (nat_lt c.args.point.first end) (lt-ltb _ _ c.if-start-point.true) (lt-ltb _ _ c.if-point-end.true) in
    searching_found _ _ _ _ _ _ c.loop-child.invariant _ _ c.in-Some.ensures.steps c.requires.fits _ c.tokens_of.ensures c.requires.near here c.branch_at.result c.branch_at.ensures

pub loop-child-preserved : goal.loop-child-preserved
loop-child-preserved c =
    let end = c.loop-child.start + c.tokens_of.result in
    let past : is_around c.args.point.reached c.args.point.first c.loop-child.start end ≡ false = elim c.else-start-point.branch [
      | else-start-point-via-then-start-point+else-point-end w ↦ and_right (nat_lt c.loop-child.start c.args.point.reached) (nat_lt c.args.point.first end) (le-ltb _ _ w.if-point-end.false)
      | else-start-point-via-else-start-point w ↦ and_left (nat_lt c.loop-child.start c.args.point.reached) (nat_lt c.args.point.first end) (le-ltb _ _ w.if-start-point.false)
    ] in
    searching_next _ _ _ _ _ _ c.loop-child.invariant _ _ c.in-Some.ensures.steps c.requires.fits _ c.tokens_of.ensures past
