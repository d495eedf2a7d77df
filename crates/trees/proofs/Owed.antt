-- No more nodes are marked than the trees of the roots have branches.
use Rattle.trees.proofs.Std.{◌≡◌, ℕ, ◌+◌, ◌<◌, ◌≤◌, zero, suc, Bool, true, false, List, [], ◌∷◌, cond, count_by, length, drop, get_or, set, replicate, refl, ap, arith, drop_more, sum_by-cons}
use Rattle.trees.proofs.Common.{all_branches, branches, branches_of, Stamped, StampedLeaf, Invalid, plain, plain_all, plain_trees, NodeId, Child, Token, Node, Cell, AreBelow, IsStore, blank, forest_of, nodes, sizes, tree, tree_of, trees_from, trees_of, mark_all, owed}
use Rattle.trees.proofs.Cells.{from-length, store_at}

branches-forest : (ts : List Stamped) (cs : List Child) → branches_of (plain_all (forest_of ts cs)) ≡ all_branches (plain_trees (trees_of ts cs))
branches-forest ts [] = refl
branches-forest ts (c ∷ cs) = ap (λ n. branches (plain (tree_of ts c)) + n) (branches-forest ts cs)

pub owed_none : (n : ℕ) (ts : List Stamped) (m : ℕ) → owed n ts (replicate m false) ≡ 0
owed_none zero ts (suc m) = omega (arith, owed_none zero ts m)
owed_none (suc n) (t ∷ ts) (suc m) = omega (arith, owed_none n ts m)
owed_none n ts m = refl

-- one more mark costs the branches of its tree at most
pub owed_set : (n : ℕ) (ts : List Stamped) (marks : List Bool) (i : ℕ) → i < n → owed n ts (set marks i true) ≤ owed n ts marks + branches (plain (get_or ts i (StampedLeaf Invalid)))
owed_set zero ts marks i l = absurd (omega (arith, l))
owed_set (suc n) (t ∷ ts) (mark ∷ marks) (suc i) l = omega (arith, owed_set n ts marks i (omega (arith, l)))
owed_set n ts marks i l = omega arith

owed_all : (n : ℕ) (ts : List Stamped) (marks : List Bool) (cs : List Child) → AreBelow n cs → owed n ts (mark_all marks cs) ≤ owed n ts marks + all_branches (plain_trees (trees_of ts cs))
owed_all n ts marks [] h = omega arith
owed_all n ts marks (Token k ∷ cs) h = omega (arith, owed_all n ts marks cs h.1)
owed_all n ts marks (Node id ∷ cs) h = omega (arith, owed_set n ts marks id.index h.0, owed_all n ts (set marks id.index true) cs h.1)

-- the branches of a marked tree are one for its mark, and those below
owed_yes : (i : ℕ) (ts : List Stamped) (marks : List Bool) → i < length ts → get_or marks i false ≡ true
    → owed (suc i) ts marks + 1 ≡ owed i ts marks + branches (plain (get_or ts i (StampedLeaf Invalid)))
owed_yes i [] marks l e = absurd (omega (arith, l))
owed_yes zero (t ∷ ts) (true ∷ marks) l e =
    let next : owed 1 (t ∷ ts) (true ∷ marks) ≡ branches (plain t) + count_by (λ mark. mark) marks = refl in
    let now : owed 0 (t ∷ ts) (true ∷ marks) ≡ 1 + count_by (λ mark. mark) marks = sum_by-cons (λ mark. cond mark 1 0) true marks in
    omega (arith, next, now)
owed_yes (suc i) (t ∷ ts) (mark ∷ marks) l e = omega (arith, owed_yes i ts marks (omega (arith, l)) e)
owed_yes i ts marks l e = let f : ⊥ = cc e in absurd f

pub owed_no : (i : ℕ) (ts : List Stamped) (marks : List Bool) → i < length ts → get_or marks i false ≡ false → owed i ts marks ≡ owed (suc i) ts marks
owed_no i [] marks l e = absurd (omega (arith, l))
owed_no zero (t ∷ ts) [] l e = refl
owed_no (suc i) (t ∷ ts) [] l e = refl
owed_no zero (t ∷ ts) (true ∷ marks) l e = let f : ⊥ = cc e in absurd f
owed_no zero (t ∷ ts) (false ∷ marks) l e = sum_by-cons (λ mark. cond mark 1 0) false marks
owed_no (suc i) (t ∷ ts) (mark ∷ marks) l e = omega (arith, owed_no i ts marks (omega (arith, l)) e)

-- a marked node pays for its children
pub owed_next : (cells : List Cell) (marks : List Bool) (i : ℕ) → IsStore cells → i < length cells → get_or marks i false ≡ true
    → owed i (trees_from [] cells) (mark_all marks (get_or cells i blank).children) ≤ owed (suc i) (trees_from [] cells) marks
owed_next cells marks i s l e =
    let ts = trees_from [] cells in
    let cell = get_or cells i blank in
    let at = store_at cells s i cell blank l refl in
    omega (arith, owed_all i ts marks cell.children at.inside, owed_yes i ts marks (omega (arith, l, from-length [] cells)) e, ap (λ t. branches (plain t)) at.is, branches-forest ts cell.children)

-- the branches from a root on
pub sizes_from : (cells : List Cell) (ids : List NodeId) (i : ℕ) (none : NodeId) → i < length ids → sizes cells (nodes (drop i ids))
    ≡ branches (plain (tree cells (Node (get_or ids i none)))) + sizes cells (nodes (drop (i + 1) ids))
sizes_from cells ids i none l = ap (λ l. sizes cells (nodes l)) (drop_more ids i none l)
