use Rattle.views.proofs.Std.{◌≡◌, [], ◌∷◌, ◌++◌, length, sym, ap, ◌∙◌, subst, arith, append_assoc, IfSome, dedup, append-nil, dedup_is}
use Rattle.views.proofs.Common.{AreBelow, is_same, spans_all, trees_of_roots}
use Rattle.views.proofs.Children.{pending, IsNext, found_next, found_pending, children_fit, children_pending, children_below}
use Rattle.views.proofs.selections.spans_around.Goals as goal

pub loop-next-init : goal.loop-next-init
loop-next-init c = record {
  reported = ap (λ ss. ss ++ pending c.args.store.now c.args.point c.branch_around-next.result) c.new-spans.ensures.items
      ∙ found_pending c.args.store.now c.of.result 0 c.args.point c.branch_around-next.result c.branch_around-next.ensures
      ∙ ap (λ cs. spans_all c.args.point.reached c.args.point.first 0 (trees_of_roots c.args.store.now cs)) c.of.ensures;
  next = found_next c.args.store.now c.of.result 0 c.args.point c.branch_around-next.result
      (subst (AreBelow (length c.args.store.now)) (sym c.of.ensures) c.requires.below) c.branch_around-next.ensures;
}

pub branch_around-next-requires-in-Some-clause-below : goal.branch_around-next-requires-in-Some-clause-below
branch_around-next-requires-in-Some-clause-below c =
    let next : IsNext c.args.store.now c.args.point c.in-Some.branch = subst (λ r. IfSome r (IsNext c.args.store.now c.args.point)) c.in-Some.is c.loop-next.invariant.next in
    children_below c.args.store.now c.args.point c.in-Some.branch next c.children.result c.children.ensures.tree c.children.ensures.below

pub branch_around-next-requires-in-Some-clause-fits : goal.branch_around-next-requires-in-Some-clause-fits
branch_around-next-requires-in-Some-clause-fits c =
    let next : IsNext c.args.store.now c.args.point c.in-Some.branch = subst (λ r. IfSome r (IsNext c.args.store.now c.args.point)) c.in-Some.is c.loop-next.invariant.next in
    children_fit c.args.store.now c.args.point c.in-Some.branch next c.children.result c.children.ensures.tree

pub loop-next-smaller : goal.loop-next-smaller
loop-next-smaller c =
    let next : IsNext c.args.store.now c.args.point c.in-Some.branch = subst (λ r. IfSome r (IsNext c.args.store.now c.args.point)) c.in-Some.is c.loop-next.invariant.next in
    let now = ap (pending c.args.store.now c.args.point) c.in-Some.is ∙ children_pending c.args.store.now c.args.point c.in-Some.branch next c.children.result c.children.ensures.tree
    c.branch_around-next-in-Some.result c.branch_around-next-in-Some.ensures in
    omega (arith, ap length now)

pub loop-next-preserved : goal.loop-next-preserved
loop-next-preserved c =
    let next : IsNext c.args.store.now c.args.point c.in-Some.branch = subst (λ r. IfSome r (IsNext c.args.store.now c.args.point)) c.in-Some.is c.loop-next.invariant.next in
    let now = ap (pending c.args.store.now c.args.point) c.in-Some.is ∙ children_pending c.args.store.now c.args.point c.in-Some.branch next c.children.result c.children.ensures.tree
    c.branch_around-next-in-Some.result c.branch_around-next-in-Some.ensures in
    let below = children_below c.args.store.now c.args.point c.in-Some.branch next c.children.result c.children.ensures.tree c.children.ensures.below in
    record {
      reported = ap (λ ss. ss ++ pending c.args.store.now c.args.point c.branch_around-next-in-Some.result) c.in_ok-push.ensures.items
          ∙ append_assoc c.loop-next.spans.items ((c.in-Some.branch.from, c.in-Some.branch.to) ∷ []) (pending c.args.store.now c.args.point c.branch_around-next-in-Some.result)
          ∙ ap (λ ss. c.loop-next.spans.items ++ ss) (sym now)
          ∙ c.loop-next.invariant.reported;
      next = found_next c.args.store.now c.children.result c.in-Some.branch.from c.args.point c.branch_around-next-in-Some.result below c.branch_around-next-in-Some.ensures;
    }

pub returns : goal.returns
returns c =
    let once : c.dedup.new.self.items ≡ dedup is_same c.loop-next.spans.items = dedup_is _ c.loop-next.spans.items c.dedup.new.self.items c.dedup.ensures.filtered in
    let none : c.loop-next.spans.items ++ pending c.args.store.now c.args.point c.loop-next.next ≡ c.loop-next.spans.items ++ [] =
    ap (λ r. c.loop-next.spans.items ++ pending c.args.store.now c.args.point r) c.in_default.is in
    once ∙ ap (dedup is_same) (sym (append-nil c.loop-next.spans.items) ∙ sym none ∙ c.loop-next.invariant.reported)
