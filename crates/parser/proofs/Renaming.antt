-- Children that are renamed mean what they meant.
use Rattle.parser.proofs.Std.{refl, sym, ap, ◌++◌, take, arith, ◌≡◌, ℕ, suc, ◌+◌, List, [], ◌∷◌, length, take_at, head-eq_of_cons-eq, tail-eq_of_cons-eq}
use Rattle.parser.proofs.Common.{branches, StampedLeaf, plain, NodeId, Child, Token, Node, Cell, AreBelow, all_trees, tree, nodes, sizes, HasTree, Halt, Accepted, node_ids, renamed, verdict_in, verdict_of}

pub renamed_trees : (old new : List Cell) (cs : List Child) (names : List NodeId) → all_trees new (nodes names) ≡ all_trees old (nodes (node_ids cs))
    → all_trees new (renamed cs names) ≡ all_trees old cs
renamed_trees old new [] names e = refl
renamed_trees old new (Token k ∷ cs) names e = ap (λ ts. StampedLeaf k ∷ ts) (renamed_trees old new cs names e)
renamed_trees old new (Node id ∷ cs) [] e = absurd (let f : [] ≡ tree old (Node id) ∷ all_trees old (nodes (node_ids cs)) = e in let g : ⊥ = cc f in g)
renamed_trees old new (Node id ∷ cs) (name ∷ names) e =
    let first : tree new (Node name) ≡ tree old (Node id) = head-eq_of_cons-eq e in
    let rest = renamed_trees old new cs names (tail-eq_of_cons-eq e) in
    λ i. first i ∷ rest i

-- names that mean what others meant are as many
pub as_many : (old new : List Cell) (names ids : List NodeId) → all_trees new (nodes names) ≡ all_trees old (nodes ids) → length names ≡ length ids
as_many old new [] [] e = refl
as_many old new [] (id ∷ ids) e = absurd (let f : [] ≡ tree old (Node id) ∷ all_trees old (nodes ids) = e in let g : ⊥ = cc f in g)
as_many old new (name ∷ names) [] e = absurd (let f : tree new (Node name) ∷ all_trees new (nodes names) ≡ [] = e in let g : ⊥ = cc f in g)
as_many old new (name ∷ names) (id ∷ ids) e = ap suc (as_many old new names ids (tail-eq_of_cons-eq e))

pub renamed_below : (n : ℕ) (cs : List Child) (names : List NodeId) → length names ≡ length (node_ids cs) → AreBelow n (nodes names) → AreBelow n (renamed cs names)
renamed_below n [] names e h = tt
renamed_below n (Token k ∷ cs) names e h = (tt, renamed_below n cs names e h)
renamed_below n (Node id ∷ cs) [] e h = absurd (omega (arith, e))
renamed_below n (Node id ∷ cs) (name ∷ names) e h = (h.0, renamed_below n cs names (omega (arith, e)) h.1)

pub ids_below : (n : ℕ) (cs : List Child) → AreBelow n cs → AreBelow n (nodes (node_ids cs))
ids_below n [] h = tt
ids_below n (Token k ∷ cs) h = ids_below n cs h.1
ids_below n (Node id ∷ cs) h = (h.0, ids_below n cs h.1)

pub ids_sizes : (cells : List Cell) (cs : List Child) → sizes cells (nodes (node_ids cs)) ≡ sizes cells cs
ids_sizes cells [] = refl
ids_sizes cells (Token k ∷ cs) = omega (arith, ids_sizes cells cs)
ids_sizes cells (Node id ∷ cs) = ap (λ n. branches (plain (tree cells (Node id))) + n) (ids_sizes cells cs)

pub renamed_long : (cs : List Child) (names : List NodeId) → length (renamed cs names) ≡ length cs
renamed_long [] names = refl
renamed_long (Token k ∷ cs) names = ap suc (renamed_long cs names)
renamed_long (Node id ∷ cs) [] = ap suc (renamed_long cs [])
renamed_long (Node id ∷ cs) (name ∷ names) = ap suc (renamed_long cs names)

-- the verdict over renamed trees is what it was
pub verdict_stays : (old new : List Cell) (halt : Halt) (cs : List Child) (names : List NodeId) → all_trees new (renamed cs names) ≡ all_trees old cs
    → verdict_in new (verdict_of halt (renamed cs names)) ≡ verdict_in old (verdict_of halt cs)
verdict_stays old new Accepted (Node id ∷ cs) [] e = ap (λ t. HasTree (plain t)) (head-eq_of_cons-eq e)
verdict_stays old new Accepted (Node id ∷ cs) (name ∷ names) e = ap (λ t. HasTree (plain t)) (head-eq_of_cons-eq e)
verdict_stays old new halt cs names e = refl

-- what was written back into a vector
pub written : (new rest : List Child) (n : ℕ) → n ≡ length new → take n (new ++ rest) ≡ new
written new rest n e = take_at new rest n (sym e)
