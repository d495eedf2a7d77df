-- Marks at nonterminals, from production to production.
use Rattle.std.specs.Prelude.{◌≡◌, ℕ, ◌<◌, ◌&&◌, not, Bool, true, false, List, Some, length, slice_get, slice_index_or}
use Rattle.std.specs.List.{list_all}
use Rattle.definitions.specs.declared.Symbol.{Symbol}
use Rattle.definitions.specs.declared.Symbol.TheVariants.{Rule as Terminal, Nonterminal}
use Rattle.definitions.specs.Trees.{Grammar, Production}
use Rattle.definitions.specs.Sentences.{IsProductive}

-- rules are always marked
abbrev pub is_marked : List Bool → Symbol → Bool
is_marked marks (Terminal k) = true
is_marked marks (Nonterminal n) = slice_index_or marks n false

abbrev pub are_marked : List Bool → List Symbol → Bool
are_marked marks symbols = list_all (is_marked marks) symbols

-- the production is over marked symbols, and its left side isn't marked
abbrev pub is_ready : List Bool → Production → Bool
is_ready marks x = are_marked marks x.right && not (slice_index_or marks x.left false)

-- each left side of a production over marked symbols is marked
abbrev pub IsClosed : List Production → List Bool → Type 0
IsClosed ps marks = (p : ℕ) (x : Production) → slice_get ps p ≡ Some x → are_marked marks x.right ≡ true
    → slice_index_or marks x.left false ≡ true

-- n is not marked, and has a production over marked symbols
pub record IsNext (ps : List Production) (marks : List Bool) (n : ℕ) : Type 0 where
  pub unmarked : slice_index_or marks n false ≡ false
  pub number : ℕ
  pub production : Production
  pub there : slice_get ps number ≡ Some production
  pub left_is : production.left ≡ n
  pub marked : are_marked marks production.right ≡ true

-- the left sides are below a number
abbrev pub AreBelow : List Production → ℕ → Type 0
AreBelow ps n = (p : ℕ) (x : Production) → slice_get ps p ≡ Some x → x.left < n

-- what is marked is productive in each grammar of these productions
abbrev pub AreSound : List Production → List Bool → Type 0
AreSound ps marks = (g : Grammar) (n : ℕ) → g.productions ≡ ps → slice_index_or marks n false ≡ true → IsProductive g (Nonterminal n)

-- and what is productive is marked
abbrev pub AreComplete : List Production → List Bool → Type 0
AreComplete ps marks = (g : Grammar) (n : ℕ) → g.productions ≡ ps → IsProductive g (Nonterminal n) → slice_index_or marks n false ≡ true

-- n is the first that has no mark
pub record IsFirstUnmarked (marks : List Bool) (n : ℕ) : Type 0 where
  pub within : n < length marks
  pub unmarked : slice_index_or marks n false ≡ false
  pub before : (m : ℕ) → m < n → slice_index_or marks m false ≡ true

-- in each grammar of these productions the first nonterminals are productive
abbrev pub AllProductiveIn : List Production → ℕ → Type 0
AllProductiveIn ps count = (g : Grammar) (n : ℕ) → g.productions ≡ ps → n < count → IsProductive g (Nonterminal n)

-- and nonterminal n is the first one that isn't
pub record IsUnproductiveIn (ps : List Production) (n : ℕ) : Type 0 where
  pub unproductive : (g : Grammar) → g.productions ≡ ps → ¬ IsProductive g (Nonterminal n)
  pub before : (g : Grammar) (m : ℕ) → g.productions ≡ ps → m < n → IsProductive g (Nonterminal m)
