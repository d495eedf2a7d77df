-- The spans of children in a store.
use Rattle.views.proofs.Std.{◌≡◌, ◌+◌, ◌^◌, ◌<◌, ◌≤◌, min, ℕ, true, false, List, [], ◌∷◌, ◌++◌, length, refl, sym, ap, ◌∙◌, subst, arith, length-append, Option, Some, None, MatchOption, IfSome}
use Rattle.views.proofs.Common.{trees, yield, yields, all_kinds, Stamped, StampedBranch, plain_all, plain_trees}
use Rattle.views.proofs.Common.{kinds-trees, Child, NodeId, Cell, most, tree, tree_of, trees_of, trees_from, forest_of, IsBelow, AreBelow, all_below-more, Found, Point, trees_of_roots, is_around, spans_of, spans_in, spans_all, branch_at, IsBranchAround}
use Rattle.definitions.specs.TreeEdits.{plain}
use Rattle.trees.specs.declared.store.Child.TheVariants.{Token, Node}
use Rattle.views.proofs.BranchesAround.{spans_trees, around_span, around_none, only_first}

-- the trees below a node are those of its children
pub forest_trees : (ts : List Stamped) (cs : List Child) → trees (plain_all (forest_of ts cs)) ≡ plain_trees (trees_of ts cs)
forest_trees ts [] = refl
forest_trees ts (c ∷ cs) = ap (λ rest. plain (tree_of ts c) ∷ rest) (forest_trees ts cs)

-- a node among the first n
node_below : (n : ℕ) (id : NodeId) → IsBelow n (Node id) → id.index < n
node_below n id h = h

-- the search among the children comes to the last ones, of which the first token has the place `start`
pub record IsSearching (cells : List Cell) (children : List Child) (from : ℕ) (point : Point) (rest : List Child) (start : ℕ) : Type 0 where
  pub kept : start + length (all_kinds (trees_of_roots cells rest)) ≡ from + length (all_kinds (trees_of_roots cells children))
  pub spans : spans_all point.reached point.first from (trees_of_roots cells children) ≡ spans_all point.reached point.first start (trees_of_roots cells rest)
  pub below : (n : ℕ) → AreBelow n children → AreBelow n rest

-- they begin with a child
module _ (cells : List Cell) (children : List Child) (from : ℕ) (point : Point) (rest : List Child) (start : ℕ) (s : IsSearching cells children from point rest start)
    (c : Child) (next : List Child) (is : rest ≡ c ∷ next) where
  below_next : (n : ℕ) → AreBelow n children → AreBelow n (c ∷ next)
  below_next n h = subst (AreBelow n) is (s.below n h)

  pub searching_below : (n : ℕ) → AreBelow n children → IsBelow n c
  searching_below n h = (below_next n h).0

  module _ (fits : from + length (all_kinds (trees_of_roots cells children)) < 2 ^ 64) (n : ℕ) (counted : n ≡ min most (length (yield (plain (tree cells c))))) where
    left : start + length (all_kinds (trees_of_roots cells (c ∷ next))) ≡ from + length (all_kinds (trees_of_roots cells children))
    left = ap (λ cs. start + length (all_kinds (trees_of_roots cells cs))) (sym is) ∙ s.kept

    long : length (all_kinds (trees_of_roots cells (c ∷ next))) ≡ length (yield (plain (tree cells c))) + length (all_kinds (trees_of_roots cells next))
    long = length-append (yield (plain (tree cells c))) (all_kinds (trees_of_roots cells next))

    exact : n ≡ length (yield (plain (tree cells c)))
    exact = omega (arith, counted, fits, left, long)

    pub end_fits : start + n < 2 ^ 64
    end_fits = omega (arith, fits, left, long, exact)

    after : spans_all point.reached point.first from (trees_of_roots cells children) ≡ spans_all point.reached point.first start (trees_of_roots cells (c ∷ next))
    after = s.spans ∙ ap (λ cs. spans_all point.reached point.first start (trees_of_roots cells cs)) is

    -- the child doesn't stand around the offset
    pub searching_next : is_around point.reached point.first start (start + n) ≡ false → IsSearching cells children from point next (start + n)
    searching_next e =
        let none : spans_of point.reached point.first start (plain (tree cells c)) ≡ [] = around_none point.reached point.first start (plain (tree cells c))
        (ap (λ m. is_around point.reached point.first start (start + m)) (sym exact) ∙ e) in
        record {
          kept = omega (arith, left, long, exact);
          spans = after
              ∙ ap (λ ss. ss ++ spans_all point.reached point.first (start + length (yield (plain (tree cells c)))) (trees_of_roots cells next)) none
              ∙ ap (λ m. spans_all point.reached point.first (start + m) (trees_of_roots cells next)) (sym exact);
          below = λ m h. (below_next m h).1;
        }

    -- it does
    module _ (near : point.reached ≤ point.first + 1) (e : is_around point.reached point.first start (start + n) ≡ true) where
      own : spans_all point.reached point.first from (trees_of_roots cells children) ≡ spans_of point.reached point.first start (plain (tree cells c))
      own = after ∙ only_first point.reached point.first near start (plain (tree cells c)) (trees_of_roots cells next)
          (ap (λ m. is_around point.reached point.first start (start + m)) (sym exact) ∙ e)

      pub searching_found : (r : Option Found) → r ≡ branch_at c start (start + n)
          → MatchOption r (spans_all point.reached point.first from (trees_of_roots cells children) ≡ []) (λ b. IsBranchAround cells children from point b)
      searching_found r f = subst (λ o. MatchOption o (spans_all point.reached point.first from (trees_of_roots cells children) ≡ []) (λ b. IsBranchAround cells children from point b))
          (sym f) (go c searching_below exact own)
        where
          go : (d : Child) → ((m : ℕ) → AreBelow m children → IsBelow m d) → n ≡ length (yield (plain (tree cells d))) → spans_all point.reached point.first from
              (trees_of_roots cells children) ≡ spans_of point.reached point.first start (plain (tree cells d))
              → MatchOption (branch_at d start (start + n)) (spans_all point.reached point.first from (trees_of_roots cells children) ≡ []) (λ b. IsBranchAround cells children from point b)
          go (Token kind) among counted spans = spans
          go (Node id) among counted spans = record { below = λ m h. node_below m id (among m h); around = e; to = ap (λ m. start + m) counted; fits = end_fits; spans = spans }

-- the spans of what is to come
abbrev pub pending : List Cell → Point → Option Found → List (ℕ × ℕ)
pending cells point None = []
pending cells point (Some b) = spans_of point.reached point.first b.from (plain (tree cells (Node b.id)))

-- a node of the store that stands around the offset
pub record IsNext (cells : List Cell) (point : Point) (b : Found) : Type 0 where
  pub below : b.id.index < length cells
  pub around : is_around point.reached point.first b.from b.to ≡ true
  pub to : b.to ≡ b.from + length (yield (plain (tree cells (Node b.id))))
  pub fits : b.to < 2 ^ 64

module _ (cells : List Cell) (children : List Child) (from : ℕ) (point : Point) where
  pub found_next : (r : Option Found) → AreBelow (length cells) children → MatchOption r (spans_all point.reached point.first from (trees_of_roots cells children) ≡ [])
      (λ b. IsBranchAround cells children from point b) → IfSome r (IsNext cells point)
  found_next None h m = tt
  found_next (Some b) h m = record { below = m.below (length cells) h; around = m.around; to = m.to; fits = m.fits }

  pub found_pending : (r : Option Found) → MatchOption r (spans_all point.reached point.first from (trees_of_roots cells children) ≡ []) (λ b. IsBranchAround cells children from point b)
      → pending cells point r ≡ spans_all point.reached point.first from (trees_of_roots cells children)
  found_pending None m = sym m
  found_pending (Some b) m = sym m.spans

-- the children of a node that stands around the offset
module _ (cells : List Cell) (point : Point) (b : Found) (next : IsNext cells point b) (children : List Child)
    (over : (production born : ℕ) × (tree cells (Node b.id) ≡ StampedBranch production born (forest_of (trees_from [] cells) children))) where
  all : yield (plain (tree cells (Node b.id))) ≡ all_kinds (trees_of_roots cells children)
  all =
      ap (λ s. yield (plain s)) over.2
      ∙ sym (kinds-trees (plain_all (forest_of (trees_from [] cells) children)))
      ∙ ap all_kinds (forest_trees (trees_from [] cells) children)

  pub children_fit : b.from + length (all_kinds (trees_of_roots cells children)) < 2 ^ 64
  children_fit = omega (arith, next.to, next.fits, ap length all)

  -- it is reported, and then what the search among its children comes to
  pub children_pending : (r : Option Found) → MatchOption r (spans_all point.reached point.first b.from (trees_of_roots cells children) ≡ []) (λ n. IsBranchAround cells children b.from point n)
      → pending cells point (Some b) ≡ (b.from, b.to) ∷ pending cells point r
  children_pending r found =
      let us = plain_all (forest_of (trees_from [] cells) children) in
      let end : b.to ≡ b.from + length (yields us) = next.to ∙ ap (λ s. b.from + length (yield (plain s))) over.2 in
      ap (λ s. spans_of point.reached point.first b.from (plain s)) over.2
      ∙ around_span point.reached point.first b.from over.0 us (ap (is_around point.reached point.first b.from) (sym end) ∙ next.around)
      ∙ ap (λ to. (b.from, to) ∷ spans_in point.reached point.first b.from us) (sym end)
      ∙ ap (λ ss. (b.from, b.to) ∷ ss) (spans_trees point.reached point.first b.from us ∙ ap (spans_all point.reached point.first b.from) (forest_trees (trees_from [] cells) children)
      ∙ sym (found_pending cells children b.from point r found))

  pub children_below : AreBelow b.id.index children → AreBelow (length cells) children
  children_below h = all_below-more b.id.index (length cells) (omega (arith, next.below)) children h
