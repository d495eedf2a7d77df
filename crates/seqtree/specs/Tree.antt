-- What a tree is seen as: its items in order, and its height.
use Rattle.std.specs.Prelude.{ℕ, ◌+◌, ◌*◌, ◌^◌, ◌<◌, ◌≤◌, ◌≡◌, max, List, [], ◌∷◌, ◌++◌, Option, Some, None, Box, length}
use Rattle.std.specs.Int.Digits.{digits_of}
use Rattle.std.specs.declared.alloc.Global.{Global}
use Rattle.seqtree.specs.Monoid.{total}

-- `items_of tree`: the items of a tree that may be empty, in order
abbrev pub items_of : {A : Type 0} → Option (Box (List A × ℕ) Global) → List A
items_of None = []
items_of (Some b) = b.value.0

-- `height_of tree`: the height of a tree, 0 where it is empty
abbrev pub height_of : {A : Type 0} → Option (Box (List A × ℕ) Global) → ℕ
height_of None = 0
height_of (Some b) = b.value.1

-- neither height is more than `by` above the other
abbrev pub DifferByAtMost : ℕ → ℕ → ℕ → Type 0
DifferByAtMost by l r = (l ≤ r + by) × (r ≤ l + by)

-- the height `h` is at most twice the number of binary digits of `n`
abbrev pub IsLow : ℕ → ℕ → Type 0
IsLow h n = (k : ℕ) → n < 2 ^ k → h ≤ 2 * k

-- what holds of a node with the sides `l` and `r` and the item `x`: its number of items, height and sum are right, the heights of its sides
-- differ by at most 1, and its height is low (`IsLow`)
pub record IsNode {A M : Type 0} (zero : M) (join : M → M → M) (measure : A → M) (l r : Option (Box (List A × ℕ) Global)) (x : A)
    (len tall : ℕ) (all : M) : Type 0 where
  pub len_is : len ≡ length (items_of l) + 1 + length (items_of r)
  pub tall_is : tall ≡ max (height_of l) (height_of r) + 1
  pub balanced : DifferByAtMost 1 (height_of l) (height_of r)
  pub low : IsLow tall len
  pub high : len < 2 ^ tall
  pub fits : len < 2 ^ 64
  pub all_is : all ≡ total zero join measure (items_of l ++ x ∷ items_of r)

-- how many binary digits a number has, and 0 for 0
abbrev pub digits : ℕ → ℕ
digits n = length (digits_of 2 n)
