-- The kind with which trees begin, where it is found a few steps from their start.
use Rattle.parser.proofs.Std.{◌≡◌, ℕ, ◌+◌, List, [], ◌∷◌, ◌++◌, length, drop, slice_get, Option, Some, None, IfSome, sym, ap, ◌∙◌, append_assoc, tail-eq_of_cons-eq}
use Rattle.parser.proofs.Common.{Kind, all_kinds, yield, StampedBranch, plain, kinds-append, Child, Node, NodeId, Cell, tree, trees_from, forest_of, input_of, leaves, plain_of}
use Rattle.parser.proofs.LeftEdge.{after_drop}
use Rattle.parser.proofs.Inputs.{kids_kinds}
use Rattle.parser.proofs.Reusing.{look_first}

-- in the place of a node stand its children
pub into_node : (cells : List Cell) (id : NodeId) (rest kids : List Child) (p b : ℕ) (all more : List Kind) → tree cells (Node id) ≡ StampedBranch p b (forest_of (trees_from [] cells) kids)
    → all ≡ all_kinds (plain_of cells (Node id ∷ rest)) ++ more → all ≡ all_kinds (plain_of cells kids) ++ (all_kinds (plain_of cells rest) ++ more)
into_node cells id rest kids p b all more made e =
    e ∙ append_assoc (yield (plain (tree cells (Node id)))) (all_kinds (plain_of cells rest)) more ∙ ap (λ l. l ++ (all_kinds (plain_of cells rest) ++ more)) (sym (kids_kinds cells kids id p b made))

-- a tree of no kinds is passed
pub past_empty : (cells : List Cell) (c : Child) (rest : List Child) (all more : List Kind) → yield (plain (tree cells c)) ≡ []
    → all ≡ all_kinds (plain_of cells (c ∷ rest)) ++ more → all ≡ all_kinds (plain_of cells rest) ++ more
past_empty cells c rest all more none e = e ∙ ap (λ l. (l ++ all_kinds (plain_of cells rest)) ++ more) none

-- the kind with which the trees after the first one begin is the one after the first
pub second_is : (cells : List Cell) (kinds : List Kind) (read : ℕ) (id : NodeId) (now rest others : List Child) (first : Child) (k : Kind) (more : List Kind)
    → now ≡ Node id ∷ rest → now ≡ first ∷ others → all_kinds (plain_of cells others) ≡ k ∷ more → all_kinds (input_of cells now kinds read) ≡ drop read kinds
    → Some k ≡ slice_get kinds (read + length (yield (plain (tree cells (Node id)))))
second_is cells kinds read id now rest others first k more e f is covers =
    let same : rest ≡ others = tail-eq_of_cons-eq (sym e ∙ f) in
    let u = yield (plain (tree cells (Node id))) in
    let ls = leaves (drop (read + length (all_kinds (plain_of cells now))) kinds) in
    let whole : all_kinds (input_of cells now kinds read) ≡ u ++ (k ∷ (more ++ all_kinds ls)) =
    kinds-append (plain_of cells now) ls ∙ ap (λ l. all_kinds (plain_of cells l) ++ all_kinds ls) e ∙ append_assoc u (all_kinds (plain_of cells rest)) (all_kinds ls)
    ∙ ap (λ l. u ++ (l ++ all_kinds ls)) (ap (λ l. all_kinds (plain_of cells l)) same ∙ is) in
    look_first kinds (read + length u) k (more ++ all_kinds ls) (after_drop u (k ∷ (more ++ all_kinds ls)) kinds read (sym whole ∙ covers))

-- the kind with which the children of the second tree begin
pub second_of : (cells : List Cell) (now others rest kids : List Child) (first : Child) (id : NodeId) (p b : ℕ) (found : Option Kind) → now ≡ first ∷ others
    → all_kinds (plain_of cells others) ≡ all_kinds (plain_of cells (Node id ∷ rest)) → tree cells (Node id) ≡ StampedBranch p b (forest_of (trees_from [] cells) kids)
    → IfSome found (λ k. (more : List Kind) × (all_kinds (plain_of cells kids) ≡ k ∷ more))
    → IfSome found (λ k. (first : Child) × (rest : List Child) × (more : List Kind) × (now ≡ first ∷ rest) × (all_kinds (plain_of cells rest) ≡ k ∷ more))
second_of cells now others rest kids first id p b None e same made h = tt
second_of cells now others rest kids first id p b (Some k) e same made h =
    (first, others, h.0 ++ all_kinds (plain_of cells rest), e, same ∙ ap (λ l. l ++ all_kinds (plain_of cells rest)) (sym (kids_kinds cells kids id p b made) ∙ h.1))
