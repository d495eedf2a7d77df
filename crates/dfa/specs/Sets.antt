-- Sets of positions as rising lists, and the states of an automaton.
use Rattle.std.specs.Prelude.{◌≡◌, ℕ, ◌+◌, ◌≤◌, ◌⊎◌, Bool, true, false, List, [], ◌∷◌}
use Rattle.definitions.specs.declared.expression.Expression.{Expression}
use Rattle.definitions.specs.Spelling.{IsWellMade}
use Rattle.dfa.specs.Positions.{StandsAt}
use Rattle.dfa.specs.Marks.{mark}

abbrev pub Among : List ℕ → ℕ → Type 0
Among [] x = ⊥
Among (y ∷ ys) x = (y ≡ x) ⊎ Among ys x

-- `Rises n xs`: each number is greater than the one before it, and the first is at least `n`
abbrev pub Rises : ℕ → List ℕ → Type 0
Rises n [] = Unit {0}
Rises n (x ∷ xs) = (n ≤ x) × Rises (x + 1) xs

-- the set of the positions at which the last character of u can stand
pub record IsSetOf (rules : List Expression) (u : List ℕ) (set : List ℕ) : Type 0 where
  pub rises : Rises 0 set
  pub only : (p : ℕ) → Among set p → StandsAt rules p u
  pub every : (p : ℕ) → StandsAt rules p u → Among set p

-- the marks are those of the set
pub record AreMarksOf (set : List ℕ) (marks : List Bool) : Type 0 where
  pub only : (p : ℕ) → mark marks p ≡ true → Among set p
  pub every : (p : ℕ) → Among set p → mark marks p ≡ true

-- no position is marked
abbrev pub AreBlank : List Bool → Type 0
AreBlank marks = (p : ℕ) → mark marks p ≡ false

abbrev pub AllMade : List Expression → Type 0
AllMade [] = Unit {0}
AllMade (e ∷ es) = IsWellMade e × AllMade es
