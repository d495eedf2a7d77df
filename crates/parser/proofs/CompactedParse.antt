-- A parse in a compacted store is the parse that it was.
use Rattle.parser.proofs.Std.{◌≡◌, List, [], ◌∷◌, sym, ap, subst, refl, ◌∙◌, head-eq_of_cons-eq, tail-eq_of_cons-eq}
use Rattle.parser.proofs.Common.{Kind, all_branches, HaveRoots, Stamped, StampedCons, plain_trees, IsVerdict, Child, Cell, all_trees, forest_in, forest_of, tree_of, trees_from, trees_of, Sets, IsStateOf, IsSameParse, plain_of, AreStacked, AreUpTo, IsParseOf, Stop, all_branches_by, verdict_in}

-- lists of the same trees are the same forests
pub same_forest : (ts us : List Stamped) (cs ds : List Child) → trees_of ts cs ≡ trees_of us ds → forest_of ts cs ≡ forest_of us ds
same_forest ts us [] [] e = refl
same_forest ts us [] (d ∷ ds) e = absurd (let f : [] ≡ tree_of us d ∷ trees_of us ds = e in let g : ⊥ = cc f in g)
same_forest ts us (c ∷ cs) [] e = absurd (let f : tree_of ts c ∷ trees_of ts cs ≡ [] = e in let g : ⊥ = cc f in g)
same_forest ts us (c ∷ cs) (d ∷ ds) e =
    let first : tree_of ts c ≡ tree_of us d = head-eq_of_cons-eq e in
    let rest = same_forest ts us cs ds (tail-eq_of_cons-eq e) in
    λ i. StampedCons (first i) (rest i)

module _ (old : List Cell) (p : Stop) (new : List Cell) (q : Stop) (same : IsSameParse old p new q) where
  pub same_plain : plain_of new q.stack ≡ plain_of old p.stack
  same_plain = ap plain_trees same.trees

  pub same_stamped : forest_in new q.stack ≡ forest_in old p.stack
  same_stamped = same_forest (trees_from [] new) (trees_from [] old) q.stack p.stack same.trees

  pub same_parse : (t : Sets) (kinds : List Kind) → IsParseOf t kinds old p → IsParseOf t kinds new q
  same_parse t kinds h = record {
    stop = record {
      below = same.below;
      verdict = subst (IsVerdict t.grammar kinds) (sym same.verdict) h.stop.verdict;
      stack = subst (λ v. AreStacked t.grammar kinds v (plain_of new q.stack)) (sym same.verdict) (subst (AreStacked t.grammar kinds (verdict_in old p.verdict)) (sym same_plain) h.stop.stack);
      root = same.root;
      roots = h.stop.roots;
      are_roots = subst (λ ts. HaveRoots t.grammar ts h.stop.roots) (sym same_plain) h.stop.are_roots;
      state = subst (IsStateOf t h.stop.roots) (sym same.state) h.stop.state;
    };
    branches = same.branches ∙ h.branches ∙ ap all_branches (sym same_plain);
    built = same.built ∙ h.built ∙ (λ i. all_branches_by (sym same.number i) (sym same.trees i));
    older = subst (λ n. AreUpTo n (all_trees new q.stack)) (sym same.number) (subst (AreUpTo p.number) (sym same.trees) h.older);
    countable = h.countable;
  }
