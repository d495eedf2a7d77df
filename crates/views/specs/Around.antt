-- The branches of trees around an offset, as the places of their tokens. The token places `reached` and `first` give the
-- offset: a token starts at or before it where its place is below `reached`, and ends after it where its place is at least
-- `first`.
use Rattle.std.specs.Prelude.{ℕ, ◌+◌, ◌-◌, ◌^◌, ◌≡◌, true, ◌<◌, ◌≤◌, ◌↔◌, Bool, ◌&&◌, ◌==◌, nat_lt, if◌then◌else◌, List, [], ◌∷◌, ◌++◌}
use Rattle.std.specs.Prelude.{length, map, slice_index, Option, Some, None}
use Rattle.definitions.specs.Answers.{end_of}
use Rattle.definitions.specs.Tokens.{Placed}
use Rattle.definitions.specs.TreeEdits.{plain}
use Rattle.definitions.specs.Trees.{Tree, Forest, Leaf, Branch, Nil, Cons, yield, yields}
use Rattle.trees.specs.declared.store.Child.{Child}
use Rattle.trees.specs.declared.store.Child.TheVariants.{Token as Leaf_child, Node}
use Rattle.trees.specs.Cells.{Cell, AreBelow, tree}
use Rattle.views.specs.declared.selections.Branch.{Branch as Found}
use Rattle.views.specs.declared.selections.Point.{Point}
use Rattle.views.specs.Roots.{trees_of_roots}

abbrev pub starts_at : List Placed → ℕ → ℕ
starts_at parts k = slice_index (map (λ x. x.start) parts) k

abbrev pub ends_at : List Placed → ℕ → ℕ
ends_at parts k = slice_index (map end_of parts) k

-- among these tokens the two places give offset o
pub record IsAround (parts : List Placed) (o reached first : ℕ) : Type 0 where
  pub near : reached ≤ first + 1
  pub starts : (k : ℕ) → k < length parts → (starts_at parts k ≤ o) ↔ (k < reached)
  pub ends : (k : ℕ) → k < length parts → (o < ends_at parts k) ↔ (first ≤ k)

-- whether the tokens from place c up to place d stand around the offset
abbrev pub is_around : ℕ → ℕ → ℕ → ℕ → Bool
is_around reached first c d = nat_lt c reached && nat_lt first d

abbrev mutual
  -- `spans_of reached first from t`: the places of the branches of `t` around the offset, from outer to inner, where its first token has
  -- the place `from`
  pub spans_of : ℕ → ℕ → ℕ → Tree → List (ℕ × ℕ)
  spans_of reached first from (Leaf k) = []
  spans_of reached first from (Branch p us) =
      let to = from + length (yields us) in
      if is_around reached first from to then (from, to) ∷ spans_in reached first from us else []

  -- `spans_in reached first from f`: the places of the branches of a `Forest` around the offset
  pub spans_in : ℕ → ℕ → ℕ → Forest → List (ℕ × ℕ)
  spans_in reached first from Nil = []
  spans_in reached first from (Cons t us) = spans_of reached first from t ++ spans_in reached first (from + length (yield t)) us

-- `spans_all reached first from ts`: the places of the branches of a list of trees around the offset
abbrev pub spans_all : ℕ → ℕ → ℕ → List Tree → List (ℕ × ℕ)
spans_all reached first from [] = []
spans_all reached first from (t ∷ ts) = spans_of reached first from t ++ spans_all reached first (from + length (yield t)) ts

-- the offsets from the start of the first token up to the end of the last one
abbrev pub offsets_of : List Placed → ℕ × ℕ → ℕ × ℕ
offsets_of parts s = (starts_at parts s.0, ends_at parts (s.1 - 1))

abbrev pub is_same : ℕ × ℕ → ℕ × ℕ → Bool
is_same r s = r.0 == s.0 && r.1 == s.1

-- `inside w rs`: the spans `rs` without the first one, where that is `w`
abbrev pub inside : ℕ × ℕ → List (ℕ × ℕ) → List (ℕ × ℕ)
inside w [] = []
inside w (r ∷ rs) = if is_same w r then rs else r ∷ rs

-- the child at these places, if it is a branch
abbrev pub branch_at : Child → ℕ → ℕ → Option Found
branch_at (Leaf_child k) from to = None
branch_at (Node id) from to = Some (record { id = id; from = from; to = to })

-- The branch stands around the offset, at the tokens of its yield, and the spans of the children are those of the branch. It
-- is one of them, so that it stands before whatever they stand before.
pub record IsBranchAround (cells : List Cell) (children : List Child) (from : ℕ) (point : Point) (branch : Found) : Type 0 where
  pub below : (n : ℕ) → AreBelow n children → branch.id.index < n
  pub around : is_around point.reached point.first branch.from branch.to ≡ true
  pub to : branch.to ≡ branch.from + length (yield (plain (tree cells (Node branch.id))))
  pub fits : branch.to < 2 ^ 64
  pub spans : spans_all point.reached point.first from (trees_of_roots cells children) ≡ spans_of point.reached point.first branch.from
      (plain (tree cells (Node branch.id)))

-- a span of some of the first n tokens
pub record IsSpanOf (n : ℕ) (s : ℕ × ℕ) : Type 0 where
  pub filled : s.0 < s.1
  pub to : s.1 ≤ n

-- the first span holds the second
abbrev pub Holds : ℕ × ℕ → ℕ × ℕ → Type 0
Holds r s = (r.0 ≤ s.0) × (s.1 ≤ r.1)
