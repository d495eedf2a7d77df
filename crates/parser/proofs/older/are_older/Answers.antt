use Rattle.parser.proofs.Std.{◌≡◌, ◌<◌, ◌+◌, ◌∷◌, ◌++◌, ℕ, [], length, sym, ap, ◌∙◌, subst, arith}
use Rattle.parser.proofs.Common.{StampedBranch, StampedForest, StampedIn, StampedLeaf, StampedTop, stamped_trees, AreBelow, all_trees, forest_of, trees_from, Node, Token, AreChildren, plain_of, ComeFrom, AreOlder}
use Rattle.parser.proofs.WhereBranchesComeFrom.{come_after, come_on, older_node, older_token, opened_came}
use Rattle.parser.proofs.Cuts.{opened_below, opened_lighter}
use Rattle.parser.proofs.LeftEdge.{weight}
use Rattle.parser.proofs.Stamping.{stamped-children, trees_of-append}
use Rattle.parser.proofs.older.are_older.Goals as goal

-- a branch of this number, or of a later one, stands in the trees
pub returns-then-born-number : goal.returns-then-born-number
returns-then-born-number c =
    let cells = c.args.store.now in
    let rest = c.take.new.self in
    let old : c.trees.rest ≡ Node c.in-Node.id ∷ rest = c.in-Some.ensures ∙ ap (λ x. x ∷ rest) c.in-Node.is in
    let is = c.born.ensures.tree in
    let node = StampedBranch is.0 c.born.result is.1 in
    let first : StampedIn (node ∷ all_trees cells rest) [] is.0 c.born.result is.1 = StampedTop in
    let here : StampedIn (all_trees cells c.trees.rest) [] is.0 c.born.result is.1 = subst (λ l. StampedIn (all_trees cells l) [] is.0 c.born.result is.1)
    (sym old) (subst (λ s. StampedIn (s ∷ all_trees cells rest) [] is.0 c.born.result is.1) (sym is.2) first) in
    let one = c.trees.invariant.came.1 [] is.0 c.born.result is.1 here in
    let never : AreOlder c.args.number (all_trees cells c.args.children.now) → ⊥ = λ older. omega (arith, older one.0 is.0 c.born.result is.1 one.1, c.if-born-number.true) in (
      (λ e. absurd (let f : ⊥ = cc in f)),
      (λ older. absurd (never older)),
    )

pub trees-smaller-in-Continue-branch-2 : goal.trees-smaller-in-Continue-branch-2
trees-smaller-in-Continue-branch-2 c =
    let cells = c.args.store.now in
    let rest = c.take.new.self in
    let old : c.trees.rest ≡ Node c.in-Node.id ∷ rest = c.in-Some.ensures ∙ ap (λ x. x ∷ rest) c.in-Node.is in
    let is = c.children.ensures in
    let of_id : AreChildren cells c.in-Node.id c.children.result = record { below = is.below; production = is.tree.0; born = is.tree.1; is = is.tree.2 } in
    subst (λ l. weight (plain_of cells l) < weight (plain_of cells c.trees.rest)) (sym c.in_ok-put_all-2.ensures)
    (subst (λ l. weight (plain_of cells (c.children.result ++ rest)) < weight (plain_of cells l)) (sym old) (opened_lighter cells of_id rest))

pub trees-preserved-in-Continue-branch-2 : goal.trees-preserved-in-Continue-branch-2
trees-preserved-in-Continue-branch-2 c =
    let cells = c.args.store.now in
    let rest = c.take.new.self in
    let id = c.in-Node.id in
    let kids = c.children.result in
    let all = all_trees cells c.args.children.now in
    let old : c.trees.rest ≡ Node id ∷ rest = c.in-Some.ensures ∙ ap (λ x. x ∷ rest) c.in-Node.is in
    let is = c.children.ensures in
    let of_id : AreChildren cells id kids = record { below = is.below; production = is.tree.0; born = is.tree.1; is = is.tree.2 } in
    let new : c.put_all-in-Node.new.self ≡ kids ++ rest = c.in_ok-put_all-2.ensures in
    let place = c.trees.invariant.came.0 in
    let came : ComeFrom all place (all_trees cells (Node id ∷ rest)) = subst (λ l. ComeFrom all place (all_trees cells l)) old c.trees.invariant.came.1 in
    let opened = come_on place 0 all (all_trees cells (Node id ∷ rest)) (all_trees cells (kids ++ rest)) came (opened_came cells kids rest id is.tree.0 is.tree.1 is.tree.2) in
    let same : c.born.result ≡ is.tree.1 = born_once (sym c.born.ensures.tree.2 ∙ is.tree.2) in
    let f = forest_of (trees_from [] cells) kids in
    let parts : all_trees cells (kids ++ rest) ≡ stamped_trees f ++ all_trees cells rest = trees_of-append (trees_from [] cells) kids rest
    ∙ ap (λ l. l ++ all_trees cells rest) (sym (stamped-children (trees_from [] cells) kids)) in
    let closed : AreOlder c.args.number (all_trees cells (kids ++ rest)) → AreOlder c.args.number (all_trees cells (Node id ∷ rest)) = λ older.
    subst (λ s. AreOlder c.args.number (s ∷ all_trees cells rest)) (sym is.tree.2)
    (older_node c.args.number is.tree.0 is.tree.1 f (all_trees cells rest) (omega (arith, same, c.if-born-number.false)) (subst (AreOlder c.args.number) parts older)) in
    record {
      below = subst (AreBelow (length cells)) (sym new) (opened_below cells of_id (length cells) rest (subst (AreBelow (length cells)) old c.trees.invariant.below));
      came = (place + 0, subst (λ l. ComeFrom all (place + 0) (all_trees cells l)) (sym new) opened);
      so_far = λ older. c.trees.invariant.so_far (subst (λ l. AreOlder c.args.number (all_trees cells l)) (sym old) (closed (subst (λ l. AreOlder c.args.number (all_trees cells l)) new older)));
    }
  where
    born_once : {p q b d : ℕ} {us vs : StampedForest} → StampedBranch p b us ≡ StampedBranch q d vs → b ≡ d
    born_once e = cc e

pub trees-preserved : goal.trees-preserved
trees-preserved c =
    let cells = c.args.store.now in
    let rest = c.take.new.self in
    let k = c.in_default-child.field-0 in
    let all = all_trees cells c.args.children.now in
    let old : c.trees.rest ≡ Token k ∷ rest = c.in-Some.ensures ∙ ap (λ x. x ∷ rest) c.in_default-child.is in
    let place = c.trees.invariant.came.0 in
    let came : ComeFrom all place (all_trees cells (Token k ∷ rest)) = subst (λ l. ComeFrom all place (all_trees cells l)) old c.trees.invariant.came.1 in
    record {
      below = (subst (AreBelow (length cells)) old c.trees.invariant.below).1;
      came = (place + 1, come_on place 1 all (all_trees cells (Token k ∷ rest)) (all_trees cells rest) came (come_after (StampedLeaf k) (all_trees cells rest)));
      so_far = λ older. c.trees.invariant.so_far (subst (λ l. AreOlder c.args.number (all_trees cells l)) (sym old) (older_token c.args.number k (all_trees cells rest) older));
    }
