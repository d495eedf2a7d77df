-- How symbols lie in one another.
use Rattle.std.specs.Prelude.{ℕ, ◌+◌, ◌≤◌, List, [], ◌∷◌}

-- `AreNestedFrom most depths`: the first depth is at most this, and each other at most one more than the one before it
abbrev pub AreNestedFrom : ℕ → List ℕ → Type 0
AreNestedFrom most [] = Unit {0}
AreNestedFrom most (depth ∷ depths) = (depth ≤ most) × AreNestedFrom (depth + 1) depths

-- the depths of symbols, each before those that lie in it: the first lies in none, and each other in the one before it or in some that this
-- one lies in
abbrev pub AreNested : List ℕ → Type 0
AreNested depths = AreNestedFrom 0 depths
