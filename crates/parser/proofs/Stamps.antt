-- The stamped trees of children, where the input is opened and where the store grows.
use Rattle.parser.proofs.Std.{◌≡◌, ℕ, ◌+◌, ◌<◌, ◌≤◌, zero, suc, List, [], ◌∷◌, ◌++◌, length, take, refl, sym, ap, ◌∙◌, subst, arith, length-append}
use Rattle.parser.proofs.Common.{StampedBranch, Child, Node, Cell, AreBelow, IsGrown, KeepsTrees, tree, trees_from, all_trees, forest_of, forest_in, NodeId, grown-new, grown-tree, all_below-more, take-tree, HasMade}
use Rattle.parser.proofs.Stamping.{trees_of-append}
use Rattle.parser.proofs.Reductions.{below-append, below-prefix}

-- where the store grows, the trees of children stay
pub trees-stay : (cells : List Cell) (c : Cell) (cs : List Child) → AreBelow (length cells) cs → all_trees (cells ++ (c ∷ [])) cs ≡ all_trees cells cs
trees-stay cells c [] h = refl
trees-stay cells c (x ∷ cs) h = λ i. grown-tree cells c x h.0 i ∷ trees-stay cells c cs h.1 i

-- the new branch stands in the place of its children
pub made_stamped : (cells new : List Cell) (p number : ℕ) (under kids : List Child) (id : NodeId) → IsGrown cells p kids number new id → AreBelow (length cells) under
    → all_trees new (under ++ (Node id ∷ [])) ≡ all_trees cells under ++ (StampedBranch p number (forest_in cells kids) ∷ [])
made_stamped cells new p number under kids id h b =
    let one = trees_of-append (trees_from [] new) under (Node id ∷ []) in
    let two : all_trees new under ≡ all_trees cells under = ap (λ l. all_trees l under) h.cells_are ∙ trees-stay cells h.cell under b in
    let three : tree new (Node id) ≡ StampedBranch p number (forest_in cells kids) = ap (λ l. tree l (Node id)) h.cells_are ∙ grown-new cells h.cell id h.id_is
    ∙ (λ j. StampedBranch (h.production_is j) (h.born_is j) (forest_of (trees_from [] cells) (h.children_are j))) in
    one ∙ (λ j. two j ++ (three j ∷ []))

-- the store has one node more
pub grown_by_one : (cells : List Cell) (stack : List Child) (p n : ℕ) (new : List Cell) (stack' : List Child) → HasMade cells stack p n new stack' → length new ≡ length cells + 1
grown_by_one cells stack p n new stack' m = ap length m.grown.cells_are ∙ length-append cells (m.grown.cell ∷ [])

pub below_on : (cells : List Cell) (stack : List Child) (p n : ℕ) (new : List Cell) (stack' : List Child)
    → HasMade cells stack p n new stack' → AreBelow (length cells) stack → AreBelow (length new) stack'
below_on cells stack p n new stack' m below =
    let long = grown_by_one cells stack p n new stack' m in
    let under = below-prefix (length cells) m.under m.kids (subst (AreBelow (length cells)) m.stack_is below) in
    let under' = all_below-more (length cells) (length new) (omega (arith, long)) m.under under in
    let node : m.id.index < length new = omega (arith, long, m.grown.id_is) in
    subst (AreBelow (length new)) (sym m.stack_is') (below-append (length new) m.under (Node m.id ∷ []) under' (node, tt))

-- the nodes of the first store stay at the start
pub prefix_stays : (first cells new : List Cell) → take (length first) cells ≡ first → take (length cells) new ≡ cells → take (length first) new ≡ first
prefix_stays first cells new h k =
    let fits : length first ≤ length cells = shorter first cells h in
    ap (λ l. l) (sym (take_take (length first) (length cells) new fits)) ∙ ap (take (length first)) k ∙ h
  where
    shorter : (one two : List Cell) → take (length one) two ≡ one → length one ≤ length two
    shorter [] two e = omega arith
    shorter (x ∷ one) [] e = absurd (cc e)
    shorter (x ∷ one) (y ∷ two) e = omega (arith, shorter one two (let f : take (length one) two ≡ one = cc e in f))

    take_take : (m n : ℕ) (l : List Cell) → m ≤ n → take m (take n l) ≡ take m l
    take_take zero n l h = refl
    take_take (suc m) zero l h = absurd (omega (arith, h))
    take_take (suc m) (suc n) [] h = refl
    take_take (suc m) (suc n) (x ∷ l) h = ap (λ k. x ∷ k) (take_take m n l (omega (arith, h)))

pub trees_stay : (old new : List Cell) → take (length old) new ≡ old → KeepsTrees (length old) old new
trees_stay old new e child h = sym (take-tree new (length old) child h) ∙ ap (λ l. tree l child) e
