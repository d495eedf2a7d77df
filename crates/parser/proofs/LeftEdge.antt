-- The left edge of the input, opened step by step.
use Rattle.parser.proofs.Std.{◌≡◌, ℕ, ◌+◌, ◌<◌, ◌≤◌, zero, suc, List, [], ◌∷◌, ◌++◌, length, drop, refl, sym, ap, ◌∙◌, subst, arith, append_assoc, length-append, length-drop, nil_from_length}
use Rattle.parser.proofs.Common.{Kind, Symbol, Terminal, Nonterminal, Grammar, Tree, Leaf, Branch, Forest, Nil, Cons, trees, IsTree, AreTrees, HaveRoots, yield, yields, all_kinds, branches, all_branches, StampedBranch, plain, plain_all}
use Rattle.parser.proofs.Common.{kinds-append, kinds-trees, branches-append, branches-trees, CanReuse, Tries, Dropped, Opened, Child, NodeId, Node, Cell, tree, trees_from, forest_of, plain_of, leaves, before_leaves, AreParts, IsPart, Offers}
use Rattle.parser.proofs.Reductions.{plain-append, plain-children}

-- how much there is to open or to drop
abbrev pub weight : List Tree → ℕ
weight ts = all_branches ts + length (all_kinds ts)

-- a tree of the grammar has parts of it
tree_part : (g : Grammar) (t : Tree) (s : Symbol) → IsTree g t s → IsPart g t
tree_part g (Leaf k) s h = tt
tree_part g (Branch p us) (Terminal a) h = absurd h
tree_part g (Branch p us) (Nonterminal n) h = (n, h)

trees_parts : (g : Grammar) (us : Forest) (ss : List Symbol) → AreTrees g us ss → AreParts g (trees us)
trees_parts g Nil ss h = tt
trees_parts g (Cons t us) [] h = absurd h
trees_parts g (Cons t us) (s ∷ ss) h = (tree_part g t s h.0, trees_parts g us ss h.1)

-- a part that is a branch has its production's left side as its root
pub branch_root : (g : Grammar) (p : ℕ) (us : Forest) (t : Tree) → t ≡ Branch p us → IsPart g t → (left : ℕ) × IsTree g t (Nonterminal left)
branch_root g p us t e h = let root = subst (IsPart g) e h in (root.0, subst (λ u. IsTree g u (Nonterminal root.0)) (sym e) root.1)

pub roots_parts : (g : Grammar) (ts : List Tree) (ss : List Symbol) → HaveRoots g ts ss → AreParts g ts
roots_parts g [] ss h = tt
roots_parts g (t ∷ ts) [] h = absurd h
roots_parts g (t ∷ ts) (s ∷ ss) h = (tree_part g t s h.0, roots_parts g ts ss h.1)

pub parts-append : (g : Grammar) (one two : List Tree) → AreParts g one → AreParts g two → AreParts g (one ++ two)
parts-append g [] two h k = k
parts-append g (t ∷ one) two h k = (h.0, parts-append g one two h.1 k)

pub open_parts : (g : Grammar) (p : ℕ) (us : Forest) (ts : List Tree) → AreParts g (Branch p us ∷ ts) → AreParts g (trees us ++ ts)
open_parts g p us ts h = parts-append g (trees us) ts (trees_parts g us h.0.1.0 h.0.1.2) h.1

-- one step to the left edge
abbrev pub Step : Grammar → List Tree → List Kind → ℕ → List Tree → List Tree → Type 0
Step g stack kinds read new old = AreParts g new × (all_kinds (before_leaves new kinds read) ≡ drop read kinds)
    × Offers g stack (before_leaves new kinds read) (before_leaves old kinds read) × (weight new < weight old)

pub after_drop : (xs ys zs : List Kind) (n : ℕ) → xs ++ ys ≡ drop n zs → ys ≡ drop (n + length xs) zs
after_drop xs ys zs zero e = let h : length xs ≡ 0 + length xs = omega arith in sym (drop_past xs ys) ∙ ap (drop (length xs)) e ∙ ap (λ k. drop k zs) h
  where
    drop_past : (xs ys : List Kind) → drop (length xs) (xs ++ ys) ≡ ys
    drop_past [] ys = refl
    drop_past (x ∷ xs) ys = drop_past xs ys
after_drop [] ys [] (suc n) e = e ∙ ap (λ k. drop k []) (let h : suc n ≡ suc n + 0 = omega arith in h)
after_drop (x ∷ xs) ys [] (suc n) e = absurd (cc e)
after_drop xs ys (z ∷ zs) (suc n) e = let h : suc (n + length xs) ≡ suc n + length xs = omega arith in after_drop xs ys zs n e ∙ ap (λ k. drop k (z ∷ zs)) h

empty_branch : (t : Tree) → length (yield t) ≡ 0 → 0 < branches t
empty_branch (Leaf k) e = absurd (omega (arith, e))
empty_branch (Branch p us) e = omega arith

-- the kinds of a node's trees, and of what stands after them
pub kinds_opened : (us : Forest) (ts : List Tree) → all_kinds (trees us ++ ts) ≡ yields us ++ all_kinds ts
kinds_opened us ts = kinds-append (trees us) ts ∙ ap (λ l. l ++ all_kinds ts) (kinds-trees us)

-- they weigh less than the node does
pub branch_lighter : (p : ℕ) (us : Forest) (ts : List Tree) → weight (trees us ++ ts) < weight (Branch p us ∷ ts)
branch_lighter p us ts = omega (arith, branches-append (trees us) ts, branches-trees us, ap length (kinds_opened us ts), length-append (yields us) (all_kinds ts))

module _ (g : Grammar) (stack : List Tree) (kinds : List Kind) (read : ℕ) where
  seen_open : (us : Forest) (ts : List Tree) → before_leaves (trees us ++ ts) kinds read ≡ trees us ++ (ts ++ leaves (drop (read + length (yields us ++ all_kinds ts)) kinds))
  seen_open us ts =
      append_assoc (trees us) ts (leaves (drop (read + length (all_kinds (trees us ++ ts))) kinds)) ∙ ap (λ l. trees us ++ (ts ++ leaves (drop (read + length l) kinds))) (kinds_opened us ts)

  open_step : (p : ℕ) (us : Forest) (ts : List Tree) → AreParts g (Branch p us ∷ ts) → all_kinds (before_leaves (Branch p us ∷ ts) kinds read) ≡ drop read kinds
      → (CanReuse g stack (Branch p us) (drop (read + length (yields us)) kinds) → ⊥) → Step g stack kinds read (trees us ++ ts) (Branch p us ∷ ts)
  open_step p us ts parts covers fails =
      let rest = ts ++ leaves (drop (read + length (yields us ++ all_kinds ts)) kinds) in
      let after : all_kinds rest ≡ drop (read + length (yields us)) kinds = after_drop (yields us) (all_kinds rest) kinds read covers in
      let shape = seen_open us ts in (
        open_parts g p us ts parts,
        ap all_kinds shape ∙ kinds_opened us rest ∙ covers,
        (λ f d. Opened (subst (λ l. CanReuse g stack (Branch p us) l → ⊥) (sym after) fails) (subst (λ l. Tries g stack l f) shape d)),
        branch_lighter p us ts,
      )

  drop_step : (t : Tree) (ts : List Tree) → AreParts g (t ∷ ts) → all_kinds (before_leaves (t ∷ ts) kinds read) ≡ drop read kinds → length (yield t) ≡ 0 → Step g stack kinds read ts (t ∷ ts)
  drop_step t ts parts covers empty =
      let none = nil_from_length (yield t) empty in
      let shape : before_leaves (t ∷ ts) kinds read ≡ t ∷ before_leaves ts kinds read = ap (λ y. t ∷ (ts ++ leaves (drop (read + length (y ++ all_kinds ts)) kinds))) none in (
        parts.1,
        sym (ap all_kinds shape ∙ ap (λ l. l ++ all_kinds (before_leaves ts kinds read)) none) ∙ covers,
        (λ f d. subst (λ l. Tries g stack l f) (sym shape) (Dropped none d)),
        omega (arith, empty_branch t empty, empty, length-append (yield t) (all_kinds ts)),
      )

  -- the first tree's kinds are among those that are left
  pub first_fits : (t : Tree) (ts : List Tree) → all_kinds (before_leaves (t ∷ ts) kinds read) ≡ drop read kinds → 0 < length (yield t) → read + length (yield t) ≤ length kinds
  first_fits t ts covers n =
      let rest = ts ++ leaves (drop (read + length (yield t ++ all_kinds ts)) kinds) in
      omega (arith, n, ap length covers, length-append (yield t) (all_kinds rest), length-drop read kinds)

pub opened : (g : Grammar) (cells : List Cell) (stack : List Tree) (kinds : List Kind) (read : ℕ) (id : NodeId) (rest kids : List Child) (p b : ℕ)
    → tree cells (Node id) ≡ StampedBranch p b (forest_of (trees_from [] cells) kids) → AreParts g (plain_of cells (Node id ∷ rest))
    → all_kinds (before_leaves (plain_of cells (Node id ∷ rest)) kinds read) ≡ drop read kinds
    → (CanReuse g stack (plain (tree cells (Node id))) (drop (read + length (yield (plain (tree cells (Node id))))) kinds) → ⊥)
    → Step g stack kinds read (plain_of cells (kids ++ rest)) (plain_of cells (Node id ∷ rest))
opened g cells stack kinds read id rest kids p b e parts covers fails =
    let us = plain_all (forest_of (trees_from [] cells) kids) in
    let ts = plain_of cells rest in
    let is : Branch p us ≡ plain (tree cells (Node id)) = sym (ap plain e) in
    let new : trees us ++ ts ≡ plain_of cells (kids ++ rest) = ap (λ l. l ++ ts) (sym (plain-children (trees_from [] cells) kids)) ∙ sym (plain-append cells kids rest) in
    let step = subst (λ t. AreParts g (t ∷ ts) → all_kinds (before_leaves (t ∷ ts) kinds read) ≡ drop read kinds → (CanReuse g stack t (drop (read + length (yield t)) kinds) → ⊥)
    → Step g stack kinds read (trees us ++ ts) (t ∷ ts)) is (open_step g stack kinds read p us ts) in
    subst (λ l. Step g stack kinds read l (plain_of cells (Node id ∷ rest))) new (step parts covers fails)

pub dropped : (g : Grammar) (cells : List Cell) (stack : List Tree) (kinds : List Kind) (read : ℕ) (c : Child) (rest : List Child) → AreParts g (plain_of cells (c ∷ rest))
    → all_kinds (before_leaves (plain_of cells (c ∷ rest)) kinds read) ≡ drop read kinds → length (yield (plain (tree cells c))) ≡ 0
    → Step g stack kinds read (plain_of cells rest) (plain_of cells (c ∷ rest))
dropped g cells stack kinds read c rest parts covers empty = drop_step g stack kinds read (plain (tree cells c)) (plain_of cells rest) parts covers empty
