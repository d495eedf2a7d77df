use Rattle.parser.proofs.Std.{◌≡◌, ◌<◌, ◌+◌, ◌≤◌, length-append, min, ◌++◌, ◌∷◌, [], List, length, sym, ap, ◌∙◌, subst, arith, append_assoc, append-nil}
use Rattle.parser.proofs.Common.{place_of, all_kinds, yield, plain, Child, Node, AreBelow, most, tree, kinds_in, AreChildren, IsSplitAt, Here, Used_up, Whole, plain_of}
use Rattle.parser.specs.Cuts.{Opened}
use Rattle.parser.proofs.LeftEdge.{weight}
use Rattle.parser.proofs.Cuts.{counted, not_counted, opened_below, opened_kinds, opened_lighter, place_push, taken_lighter}
use Rattle.parser.proofs.prepare.take_prefix.Goals as goal
use Rattle.parser.proofs.prepare.take_prefix.Goals.{else-kinds-test, then-kinds-test+in_default}

pub kinds-preserved-in-Continue-1 : goal.kinds-preserved-in-Continue-1
kinds-preserved-in-Continue-1 c =
    let cells = c.args.store.now in
    let child = c.in-Some.child in
    let rest = c.take_next.new.children ++ c.take_next.new.trees in
    let old : c.kinds.children ++ c.kinds.trees ≡ child ∷ rest = c.in-Some.ensures in
    let shorter : kinds_in cells child + place_of (plain_of cells rest) ≤ most =
    omega (arith, c.kinds.invariant.countable, ap (λ l. place_of (plain_of cells l)) old, length-append (yield (plain (tree cells child))) (all_kinds (plain_of cells rest))) in
    let count : c.tokens_of-count.result ≡ kinds_in cells child = c.tokens_of-count.ensures ∙ counted (kinds_in cells child) (omega (arith, shorter)) in
    let new : c.push.new.self.items ≡ c.kinds.taken.items ++ (child ∷ []) = c.in_ok-push.ensures.items in
    record {
      below = (subst (AreBelow (length cells)) old c.kinds.invariant.below).1;
      countable = omega (arith, shorter);
      cut = λ prefix back d. subst (λ l. IsSplitAt cells c.args.n c.args.trees.now l back) (sym (ap (λ l. l ++ prefix) new ∙ append_assoc c.kinds.taken.items (child ∷ []) prefix))
          (c.kinds.invariant.cut (child ∷ prefix) back (subst (λ l. IsSplitAt cells c.kinds.left l (child ∷ prefix) back) (sym old) (Whole (omega (arith, count, c.if-count-left.true)) d)));
      left = omega (arith, ap (λ l. place_of (plain_of cells l)) new, place_push cells c.kinds.taken.items child, count, c.kinds.invariant.left, c.if-count-left.true);
    }

pub kinds-smaller-in-Continue-1 : goal.kinds-smaller-in-Continue-1
kinds-smaller-in-Continue-1 c =
    let cells = c.args.store.now in
    let rest = c.take_next.new.children ++ c.take_next.new.trees in
    subst (λ l. weight (plain_of cells rest) < weight (plain_of cells l)) (sym c.in-Some.ensures) (taken_lighter (plain (tree cells c.in-Some.child)) (plain_of cells rest))

pub kinds-smaller-in-Node : goal.kinds-smaller-in-Node
kinds-smaller-in-Node c =
    let cells = c.args.store.now in
    let rest = c.take_next.new.children ++ c.take_next.new.trees in
    let old : c.kinds.children ++ c.kinds.trees ≡ Node c.in-Node.id ∷ rest = c.in-Some.ensures ∙ ap (λ x. x ∷ rest) c.in-Node.is in
    let is = c.children-children.ensures in
    let of_id : AreChildren cells c.in-Node.id c.children-children.result = record { below = is.below; production = is.tree.0; born = is.tree.1; is = is.tree.2 } in
    subst (λ l. weight (plain_of cells (c.children-children.result ++ l)) < weight (plain_of cells (c.kinds.children ++ c.kinds.trees))) (sym c.in_ok-put_all.ensures)
    (subst (λ l. weight (plain_of cells (c.children-children.result ++ rest)) < weight (plain_of cells l)) (sym old) (opened_lighter cells of_id rest))

pub kinds-preserved-in-Node : goal.kinds-preserved-in-Node
kinds-preserved-in-Node c =
    let cells = c.args.store.now in
    let rest = c.take_next.new.children ++ c.take_next.new.trees in
    let id = c.in-Node.id in
    let old : c.kinds.children ++ c.kinds.trees ≡ Node id ∷ rest = c.in-Some.ensures ∙ ap (λ x. x ∷ rest) c.in-Node.is in
    let is = c.children-children.ensures in
    let of_id : AreChildren cells id c.children-children.result = record { below = is.below; production = is.tree.0; born = is.tree.1; is = is.tree.2 } in
    let new : c.children-children.result ++ c.put_all.new.self ≡ c.children-children.result ++ rest = ap (λ l. c.children-children.result ++ l) c.in_ok-put_all.ensures in
    let counts : c.tokens_of-count.result ≡ min most (kinds_in cells (Node id)) = c.tokens_of-count.ensures ∙ ap (λ x. min most (kinds_in cells x)) c.in-Node.is in
    let less : c.kinds.left < kinds_in cells (Node id) = not_counted (kinds_in cells (Node id)) c.kinds.left (omega (arith, counts, c.if-count-left.false)) in
    record {
      below = subst (AreBelow (length cells)) (sym new) (opened_below cells of_id (length cells) rest (subst (AreBelow (length cells)) old c.kinds.invariant.below));
      countable = omega (arith, c.kinds.invariant.countable, ap (λ l. place_of (plain_of cells l)) old, ap length (opened_kinds cells of_id rest), ap (λ l. place_of (plain_of cells l)) new);
      cut = λ prefix back d. c.kinds.invariant.cut prefix back (subst (λ l. IsSplitAt cells c.kinds.left l prefix back) (sym old)
          (Opened c.kinds-test.true less of_id (subst (λ l. IsSplitAt cells c.kinds.left l prefix back) new d)));
      left = c.kinds.invariant.left;
    }

pub returns-clause-cut : goal.returns-clause-cut
returns-clause-cut c =
    let cells = c.args.store.now in
    let old = c.kinds.children ++ c.kinds.trees in
    let rest = c.kinds-test.children ++ c.kinds-test.trees in
    let all : (back : List Child) → IsSplitAt cells c.kinds.left old [] back → IsSplitAt cells c.args.n c.args.trees.now c.kinds.taken.items back =
    λ back d. subst (λ l. IsSplitAt cells c.args.n c.args.trees.now l back) (append-nil c.kinds.taken.items) (c.kinds.invariant.cut [] back d) in
    let cut : IsSplitAt cells c.kinds.left old [] rest = elim c.kinds-test.branch [
      | else-kinds-test w ↦
          let none : 0 ≡ c.kinds.left = omega (arith, w.kinds-test.false) in
          let same : rest ≡ old = cc in
          subst (λ n. IsSplitAt cells n old [] rest) none (subst (IsSplitAt cells 0 old []) (sym same) Here)
      | then-kinds-test+in_default w ↦
          let gone = w.in_default.ensures in
          let empty : rest ≡ [] = cc (gone.1, w.trees-is, w.children-is) in
          subst (λ l. IsSplitAt cells c.kinds.left l [] rest) (sym gone.0) (subst (IsSplitAt cells c.kinds.left [] []) (sym empty) Used_up)
    ] in
    subst (IsSplitAt cells c.args.n c.args.trees.now c.kinds.taken.items) (sym c.in_ok-put_all-2.ensures) (all rest cut)
