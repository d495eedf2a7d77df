-- Growing and cutting a store keeps the trees of the nodes that stay.
use Rattle.trees.proofs.Std.{◌≡◌, ℕ, ◌+◌, ◌<◌, ◌≤◌, zero, suc, min, List, [], ◌∷◌, ◌++◌, length, take, drop, get_or, refl, sym, ap, ◌∙◌, subst, slice_get, IfSome, inl, inr}
use Rattle.trees.proofs.Std.{arith, append_assoc, length-append, take-append-drop, length-take, append-nil, get_or_append_left, take_all, cases_lt, get_or-append_seam}
use Rattle.trees.proofs.Common.{Invalid, Stamped, StampedLeaf, StampedBranch, plain_all, StampedCons, yields, branches_of, Child, NodeId, Token, Node, Cell, most, tree_of, forest_of, branch_of, trees_from, IsBelow, AreBelow, tree, tokens_below, branches_below, IsCell, AreCells}

-- the trees of nodes after others
pub from-append : (ts : List Stamped) (one two : List Cell) → trees_from ts (one ++ two) ≡ trees_from (trees_from ts one) two
from-append ts [] two = refl
from-append ts (c ∷ one) two = from-append (ts ++ (branch_of ts c ∷ [])) one two

-- there is one tree for each node
pub from-length : (ts : List Stamped) (cs : List Cell) → length (trees_from ts cs) ≡ length ts + length cs
from-length ts [] = omega arith
from-length ts (c ∷ cs) = omega (arith, from-length (ts ++ (branch_of ts c ∷ [])) cs, length-append ts (branch_of ts c ∷ []))

-- the earlier trees stand at the start
pub from-prefix : (ts : List Stamped) (cs : List Cell) → (more : List Stamped) × (trees_from ts cs ≡ ts ++ more)
from-prefix ts [] = ([], sym (append-nil ts))
from-prefix ts (c ∷ cs) =
    let r = from-prefix (ts ++ (branch_of ts c ∷ [])) cs in
    (branch_of ts c ∷ r.0, r.1 ∙ append_assoc ts (branch_of ts c ∷ []) r.0)

-- a child among the earlier nodes means the same, whatever comes after them
pub tree-more : (ts more : List Stamped) (c : Child) → IsBelow (length ts) c → tree_of (ts ++ more) c ≡ tree_of ts c
tree-more ts more (Token k) h = refl
tree-more ts more (Node id) h = get_or_append_left ts more (StampedLeaf Invalid) id.index h

-- the same of children
pub forest-more : (ts more : List Stamped) (cs : List Child) → AreBelow (length ts) cs → forest_of (ts ++ more) cs ≡ forest_of ts cs
forest-more ts more [] h = refl
forest-more ts more (c ∷ cs) h = λ i. StampedCons (tree-more ts more c h.0 i) (forest-more ts more cs h.1 i)

-- what stands among the first m nodes stands among more
pub below-more : (m n : ℕ) → m ≤ n → (c : Child) → IsBelow m c → IsBelow n c
below-more m n l (Token k) h = tt
below-more m n l (Node id) h = omega (arith, l, h)

pub all_below-more : (m n : ℕ) → m ≤ n → (cs : List Child) → AreBelow m cs → AreBelow n cs
all_below-more m n l [] h = tt
all_below-more m n l (c ∷ cs) h = (below-more m n l c h.0, all_below-more m n l cs h.1)

-- one more node
pub cells-push : (ts : List Stamped) (cs : List Cell) (c : Cell) → AreCells ts cs → IsCell (trees_from ts cs) c → AreCells ts (cs ++ (c ∷ []))
cells-push ts [] c h k = (k, tt)
cells-push ts (d ∷ cs) c h k = (h.0, cells-push (ts ++ (branch_of ts d ∷ [])) cs c h.1 k)

-- the first nodes
pub cells-take : (ts : List Stamped) (n : ℕ) (cs : List Cell) → AreCells ts cs → AreCells ts (take n cs)
cells-take ts zero cs h = tt
cells-take ts (suc n) [] h = tt
cells-take ts (suc n) (c ∷ cs) h = (h.0, cells-take (ts ++ (branch_of ts c ∷ [])) n cs h.1)

-- a node of the store, seen from the trees of all
pub record IsAt (ts : List Stamped) (i : ℕ) (c : Cell) : Type 0 where
  pub cell : IsCell ts c
  pub inside : AreBelow i c.children
  pub is : get_or ts i (StampedLeaf Invalid) ≡ branch_of ts c

-- a node, seen from the trees of a store that has grown
seen_later : (ts : List Stamped) (c : Cell) (cs : List Cell) → IsCell ts c → IsAt (trees_from (ts ++ (branch_of ts c ∷ [])) cs) (length ts) c
seen_later ts c cs h =
    let r = from-prefix (ts ++ (branch_of ts c ∷ [])) cs in
    let e = r.1 ∙ append_assoc ts (branch_of ts c ∷ []) r.0 in
    let f = forest-more ts (branch_of ts c ∷ r.0) c.children h.below in
    let all = ts ++ (branch_of ts c ∷ r.0) in
    let at : IsAt all (length ts) c = record {
      cell = record {
        below = all_below-more (length ts) (length all) (omega (arith, length-append ts (branch_of ts c ∷ r.0))) c.children h.below;
        tokens = subst (λ l. c.tokens ≡ min most (length (yields (plain_all l)))) (sym f) h.tokens;
        size = subst (λ l. c.size ≡ min most (1 + branches_of (plain_all l))) (sym f) h.size;
      };
      inside = h.below;
      is = get_or-append_seam ts (branch_of ts c) r.0 (StampedLeaf Invalid) ∙ ap (λ l. StampedBranch c.production c.born l) (sym f);
    } in
    subst (λ l. IsAt l (length ts) c) (sym e) at

-- each node, seen from the trees of all
pub cell_at : (ts : List Stamped) (cs : List Cell) → AreCells ts cs → (i : ℕ) (c d : Cell) → i < length cs → c ≡ get_or cs i d → IsAt (trees_from ts cs) (length ts + i) c
cell_at ts [] h i c d l e = absurd (omega (arith, l))
cell_at ts (b ∷ cs) h zero c d l e = let n : length ts ≡ length ts + 0 = omega arith in subst (λ k. IsAt (trees_from ts (b ∷ cs)) k c) n
    (subst (λ x. IsAt (trees_from ts (b ∷ cs)) (length ts) x) (sym e) (seen_later ts b cs h.0))
cell_at ts (b ∷ cs) h (suc i) c d l e =
    let more = ts ++ (branch_of ts b ∷ []) in
    let n : length more + i ≡ length ts + suc i = omega (arith, length-append ts (branch_of ts b ∷ [])) in
    subst (λ k. IsAt (trees_from more cs) k c) n (cell_at more cs h.1 i c d (omega (arith, l)) e)

-- the same, of a whole store
pub store_at : (cs : List Cell) → AreCells [] cs → (i : ℕ) (c d : Cell) → i < length cs → c ≡ get_or cs i d → IsAt (trees_from [] cs) i c
store_at cs h i c d l e = let n : 0 + i ≡ i = omega arith in subst (λ k. IsAt (trees_from [] cs) k c) n (cell_at [] cs h i c d l e)

-- the same, of a store and the cells that it is seen as
pub seen_at : {cs seen : List Cell} → cs ≡ seen → AreCells [] cs → (i : ℕ) (c : Cell) → i < length seen → c ≡ get_or cs i c → IsAt (trees_from [] seen) i c
seen_at {cs} view h i c l e = subst (λ s. IsAt (trees_from [] s) i c) view (store_at cs h i c c (rw view l) e)

-- a child of a node stands before it
pub below-get : (n : ℕ) (cs : List Child) (k : ℕ) → AreBelow n cs → IfSome (slice_get cs k) (IsBelow n)
below-get n [] k h = tt
below-get n (c ∷ cs) zero h = h.0
below-get n (c ∷ cs) (suc k) h = below-get n cs k h.1

-- the same of a place below the count
pub below-at : (n : ℕ) (cs : List Child) (i : ℕ) (c d : Child) → AreBelow n cs → i < length cs → c ≡ get_or cs i d → IsBelow n c
below-at n [] i c d h l e = absurd (omega (arith, l))
below-at n (b ∷ cs) zero c d h l e = subst (IsBelow n) (sym e) h.0
below-at n (b ∷ cs) (suc i) c d h l e = below-at n cs i c d h.1 (omega (arith, l)) e

-- what is to be added fits the store
pub cell_made : (cells : List Cell) (c : Cell) (cs : List Child) → c.children ≡ cs → AreBelow (length cells) cs → c.tokens ≡ min most (tokens_below cells cs)
    → c.size ≡ min most (1 + branches_below cells cs) → IsCell (trees_from [] cells) c
cell_made cells c cs e h t s =
    let n : length cells ≤ length (trees_from [] cells) = omega (arith, from-length [] cells) in
    record {
      below = all_below-more (length cells) (length (trees_from [] cells)) n c.children (subst (AreBelow (length cells)) (sym e) h);
      tokens = subst (λ l. c.tokens ≡ min most (tokens_below cells l)) (sym e) t;
      size = subst (λ l. c.size ≡ min most (1 + branches_below cells l)) (sym e) s;
    }

-- the trees of a store with one node more
pub grown-trees : (cells : List Cell) (c : Cell) → trees_from [] (cells ++ (c ∷ [])) ≡ trees_from [] cells ++ (branch_of (trees_from [] cells) c ∷ [])
grown-trees cells c = from-append [] cells (c ∷ [])

-- what was there before the new node means the same
pub grown-tree : (cells : List Cell) (c : Cell) (child : Child) → IsBelow (length cells) child → tree (cells ++ (c ∷ [])) child ≡ tree cells child
grown-tree cells c child h =
    let n : length cells ≤ length (trees_from [] cells) = omega (arith, from-length [] cells) in
    ap (λ l. tree_of l child) (grown-trees cells c) ∙ tree-more (trees_from [] cells) (branch_of (trees_from [] cells) c ∷ []) child
    (below-more (length cells) (length (trees_from [] cells)) n child h)

-- the tree of the new node
pub grown-new : (cells : List Cell) (c : Cell) (id : NodeId) → id.index ≡ length cells → tree (cells ++ (c ∷ [])) (Node id) ≡ branch_of (trees_from [] cells) c
grown-new cells c id e =
    let ts = trees_from [] cells in
    let n : id.index ≡ length ts = omega (arith, e, from-length [] cells) in
    ap (λ l. tree_of l (Node id)) (grown-trees cells c) ∙ ap (λ i. get_or (ts ++ (branch_of ts c ∷ [])) i (StampedLeaf Invalid)) n ∙ get_or-append_seam ts (branch_of ts c) [] (StampedLeaf Invalid)

-- cutting back keeps the trees of what stays
cut-tree : (cells : List Cell) (n : ℕ) (child : Child) → IsBelow n child → n ≤ length cells → tree (take n cells) child ≡ tree cells child
cut-tree cells n child h l =
    let one = take n cells in
    let all : one ++ drop n cells ≡ cells = take-append-drop n cells in
    let long : n ≤ length (trees_from [] one) = omega (arith, from-length [] one, length-take n cells, l) in
    let r = from-prefix (trees_from [] one) (drop n cells) in
    sym (tree-more (trees_from [] one) r.0 child (below-more n (length (trees_from [] one)) long child h))
    ∙ ap (λ l. tree_of l child) (sym r.1 ∙ sym (from-append [] one (drop n cells)) ∙ ap (trees_from []) all)

pub take-tree : (cells : List Cell) (n : ℕ) (child : Child) → IsBelow n child → tree (take n cells) child ≡ tree cells child
take-tree cells n child h =
    elim (cases_lt n (length cells)) [ inl l ↦ cut-tree cells n child h (omega (arith, l)) | inr l ↦ ap (λ c. tree c child) (take_all n cells l) ]
