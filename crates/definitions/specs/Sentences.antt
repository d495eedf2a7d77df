-- Sentences, viable lists of kinds, the verdict on a list of kinds, and the expected kinds.
use Rattle.std.specs.Prelude.{◌≡◌, ℕ, ◌+◌, ◌<◌, ◌↔◌, List, [], ◌∷◌, ◌++◌, length, take, All, Contains, Bool, IsTrue}
use Rattle.std.specs.List.Sorted.{IsStrictlyIncreasing}
use Rattle.definitions.specs.declared.Kind.{Kind}
use Rattle.definitions.specs.declared.Kind.TheVariants.{Rule as Token}
use Rattle.definitions.specs.declared.Symbol.{Symbol}
use Rattle.definitions.specs.declared.Symbol.TheVariants.{Nonterminal}
use Rattle.definitions.specs.Trees.{Grammar, HasProduction, Tree, IsTree, yield}

-- `t` is a tree with the start symbol as its root and the kinds `x` as its yield
pub record IsTreeOf (g : Grammar) (x : List Kind) (t : Tree) : Type 0 where
  pub root : IsTree g t (Nonterminal g.start)
  pub kinds : yield t ≡ x

-- the kinds `x` have a tree from the start symbol
abbrev pub IsSentence : Grammar → List Kind → Type 0
IsSentence g x = (t : Tree) × IsTreeOf g x t

-- some sentence begins with `x`
abbrev pub IsViable : Grammar → List Kind → Type 0
IsViable g x = (rest : List Kind) × IsSentence g (x ++ rest)

-- the symbol is the root of some tree
abbrev pub IsProductive : Grammar → Symbol → Type 0
IsProductive g s = (t : Tree) × IsTree g t s

-- the start symbol and each symbol of a right side are productive
pub record AllProductive (g : Grammar) : Type 0 where
  pub start : IsProductive g (Nonterminal g.start)
  pub each : (p n : ℕ) (right : List Symbol) → HasProduction g p n right → All (IsProductive g) right

-- `IsUsed g s`: some derivation from the start uses the symbol
pub data IsUsed (g : Grammar) : Symbol → Type 0 where
  The_start : IsUsed g (Nonterminal g.start)
  On_right : (p n : ℕ) (before : List Symbol) {s : Symbol} (after : List Symbol) → IsUsed g (Nonterminal n)
      → HasProduction g p n (before ++ (s ∷ after)) → IsUsed g s

-- a tree, a fault at a place, or a fault at the end
pub data Verdict : Type 0 where
  HasTree : Tree → Verdict
  FaultAt : ℕ → Verdict
  FaultAtEnd : Verdict

-- `IsVerdict g x v`: `v` is the tree of `x`; or a fault at `k`: no sentence begins with the first `k + 1` kinds, and one does with each
-- shorter nonempty prefix; or a fault at the end: some sentence begins with `x`, and `x` is none
abbrev pub IsVerdict : Grammar → List Kind → Verdict → Type 0
IsVerdict g x (HasTree t) = IsTreeOf g x t
IsVerdict g x (FaultAt k) = (k < length x) × ¬ IsViable g (take (k + 1) x) × ((j : ℕ) → j < k → IsViable g (take (j + 1) x))
IsVerdict g x FaultAtEnd = (¬ IsSentence g x) × IsViable g x

-- these are the rules that may follow `x`, ascending, and `at_end` says whether `x` may end there
pub record IsExpected (g : Grammar) (x : List Kind) (rules : List ℕ) (at_end : Bool) : Type 0 where
  pub in_order : IsStrictlyIncreasing rules
  pub each : (a : ℕ) → Contains rules a ↔ IsViable g (x ++ (Token a ∷ []))
  pub ends : IsTrue at_end ↔ IsSentence g x
