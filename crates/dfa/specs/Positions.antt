-- The positions of rules, those of Glushkov's automaton, and at which of them the last character of a text can stand.
-- A position is one character of a literal, or one class. They are numbered from the left, from 0.
use Rattle.std.specs.Prelude.{◌≡◌, ℕ, ◌+◌, ◌-◌, ◌<◌, ◌≤◌, ◌⊎◌, ◌↔◌, List, [], ◌∷◌, ◌++◌, length, take, All, AllPairs}
use Rattle.definitions.specs.declared.expression.Expression.{Expression}
use Rattle.definitions.specs.declared.expression.Expression.TheVariants.{Literal, Class, Sequence', Choice', Star', Plus', Optional'}
use Rattle.definitions.specs.Patterns.{Matches, IsJoin}
use Rattle.definitions.specs.Text.{IsText}

-- `positions e`: how many positions an expression has: each character of a literal, and each class, as in Glushkov's automaton
abbrev pub positions : Expression → ℕ
positions (Literal v) = length v.items
positions (Class negated v) = 1
positions (Sequence' p a q b) = positions a + positions b
positions (Choice' p a q b) = positions a + positions b
positions (Star' p a) = positions a
positions (Plus' p a) = positions a
positions (Optional' p a) = positions a

-- `Then L M u`: `u` is a text of the set `L`, followed by one of the set `M`
abbrev pub Then : (List ℕ → Type 0) → (List ℕ → Type 0) → List ℕ → Type 0
Then L M u = (v w : List ℕ) × (u ≡ v ++ w) × L v × M w

-- `CanStandAt e p u`: the last character of the nonempty text `u` can stand at position `p` of `e`, where `u` is a prefix of a text of `e`
abbrev pub CanStandAt : Expression → ℕ → List ℕ → Type 0
CanStandAt (Literal v) p u = (p < length v.items) × (u ≡ take (p + 1) v.items)
CanStandAt (Class negated v) p u = (p ≡ 0) × Matches (Class negated v) u
CanStandAt (Sequence' i a j b) p u =
    CanStandAt a p u ⊎ (positions a ≤ p) × Then (Matches a) (CanStandAt b (p - positions a)) u
CanStandAt (Choice' i a j b) p u = CanStandAt a p u ⊎ (positions a ≤ p) × CanStandAt b (p - positions a) u
CanStandAt (Star' i a) p u = Then (IsJoin (Matches a)) (CanStandAt a p) u
CanStandAt (Plus' i a) p u = Then (IsJoin (Matches a)) (CanStandAt a p) u
CanStandAt (Optional' i a) p u = CanStandAt a p u

-- `StandsAt rules p u`: as `CanStandAt`, for a list of rules, whose positions are numbered through
abbrev pub StandsAt : List Expression → ℕ → List ℕ → Type 0
StandsAt [] p u = ⊥
StandsAt (e ∷ es) p u = CanStandAt e p u ⊎ (positions e ≤ p) × StandsAt es (p - positions e) u

-- the nonempty text `u` can stand at some position
pub record HasPosition (rules : List Expression) (u : List ℕ) : Type 0 where
  pub text : IsText u
  pub nonempty : 1 ≤ length u
  pub position : ℕ
  pub stands : StandsAt rules position u

-- two texts can stand at the same positions
abbrev pub HaveSamePositions : List Expression → List ℕ → List ℕ → Type 0
HaveSamePositions rules one two = (p : ℕ) → StandsAt rules p one ↔ StandsAt rules p two

-- some texts have `n` different nonempty sets of positions, which are more than `n` with the start
abbrev pub HasMoreStatesThan : List Expression → ℕ → Type 0
HasMoreStatesThan rules n = (texts : List (List ℕ)) × (n ≤ length texts) × All (HasPosition rules) texts
    × AllPairs (λ one two. ¬ HaveSamePositions rules one two) texts
