-- Which nonterminals are nullable, and with which token rules they can begin, as marks.
use Rattle.std.specs.Prelude.{◌≡◌, ◌<◌, ℕ, Bool, true, false, ◌&&◌, ◌||◌, length, List, [], ◌∷◌, Option, Some, None, ◌==◌}
use Rattle.std.specs.List.{slice_index_or, sum_by}
use Rattle.definitions.specs.declared.Symbol.{Symbol}
use Rattle.definitions.specs.declared.Symbol.TheVariants.{Rule as Terminal, Nonterminal}
use Rattle.definitions.specs.Trees.{Grammar, HasProduction}
use Rattle.productions.specs.Productions.{Shape, IsSound, AreByLeft}
use Rattle.theory.specs.First.{IsNullable, InFirst}

-- whether each symbol is a marked nonterminal
abbrev pub nullable_by : List Bool → List Symbol → Bool
nullable_by marks [] = true
nullable_by marks (Terminal a ∷ ss) = false
nullable_by marks (Nonterminal n ∷ ss) = slice_index_or marks n false && nullable_by marks ss

-- `begin_by a nullable marks symbols`: whether the symbols begin with the rule `a`, or with a marked nonterminal, after nullable ones
abbrev pub begin_by : ℕ → List Bool → List Bool → List Symbol → Bool
begin_by a nullable marks [] = false
begin_by a nullable marks (Terminal b ∷ ss) = a == b
begin_by a nullable marks (Nonterminal n ∷ ss) = slice_index_or marks n false
    || (slice_index_or nullable n false && begin_by a nullable marks ss)

-- `holds_by look nullable marks symbols`: with no rule that the symbols are nullable, with a rule that they begin with it
abbrev pub holds_by : Option ℕ → List Bool → List Bool → List Symbol → Bool
holds_by None nullable marks ss = nullable_by marks ss
holds_by (Some a) nullable marks ss = begin_by a nullable marks ss

abbrev pub Means : Grammar → Option ℕ → List Symbol → Type 0
Means g None ss = IsNullable g ss
Means g (Some a) ss = InFirst g a ss

-- each mark is true of its nonterminal
abbrev pub AreTrue : Grammar → Option ℕ → List Bool → Type 0
AreTrue g look marks = (n : ℕ) → slice_index_or marks n false ≡ true → Means g look (Nonterminal n ∷ [])

-- no production gives a mark that is not there
abbrev pub AreClosed : Grammar → Option ℕ → List Bool → List Bool → Type 0
AreClosed g look nullable marks = (p n : ℕ) (right : List Symbol) → HasProduction g p n right
    → holds_by look nullable marks right ≡ true → slice_index_or marks n false ≡ true

-- the marked nonterminals are those of which it is true
pub record AreExact (g : Grammar) (look : Option ℕ) (marks : List Bool) : Type 0 where
  pub sound : AreTrue g look marks
  pub complete : (n : ℕ) → Means g look (Nonterminal n ∷ []) → slice_index_or marks n false ≡ true

abbrev pub off : Bool → ℕ
off true = 0
off false = 1

abbrev pub on : Bool → ℕ
on true = 1
on false = 0

-- how many are not marked
abbrev pub unmarked : List Bool → ℕ
unmarked marks = sum_by off marks

-- what a grammar's FIRST sets are computed from
pub record FirstSets : Type 0 where
  pub nullable : List Bool
  pub beginning : List (List Bool)

pub record AreFirst (g : Shape) (sets : FirstSets) : Type 0 where
  pub wide : length sets.nullable ≡ g.nonterminals
  pub rows : length sets.beginning ≡ g.grammar.rules
  pub each_wide : (a : ℕ) → a < length sets.beginning → length (slice_index_or sets.beginning a []) ≡ g.nonterminals
  pub are_nullable : AreExact g.grammar None sets.nullable
  pub begin : (a : ℕ) → a < length sets.beginning → AreExact g.grammar (Some a) (slice_index_or sets.beginning a [])

-- a grammar with its productions by left side, and what its symbols can begin with
pub record IsAugmented (g : Shape) (rows : List (List ℕ)) (sets : FirstSets) : Type 0 where
  pub sound : IsSound g
  pub by_left : AreByLeft g rows
  pub first : AreFirst g sets
