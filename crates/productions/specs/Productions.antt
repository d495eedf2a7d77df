-- The productions of a grammar, with the number of its nonterminals.
use Rattle.std.specs.Prelude.{◌≡◌, ◌+◌, ◌<◌, ◌^◌, ℕ, List, [], ◌∷◌, ◌++◌, All, AllPairs, Contains, length}
use Rattle.std.specs.List.{slice_index_or}
use Rattle.definitions.specs.declared.Symbol.{Symbol}
use Rattle.definitions.specs.declared.Symbol.TheVariants.{Rule as Terminal, Nonterminal}
use Rattle.definitions.specs.Sentences.{AllProductive}
use Rattle.definitions.specs.Trees.{Grammar, Production, HasProduction, HasDistinctProductions, left_of}

-- a grammar with the number of its nonterminals
pub record Shape : Type 0 where
  pub grammar : Grammar
  pub nonterminals : ℕ

-- `no_productions rules nonterminals start`: the grammar with these numbers and no production
abbrev pub no_productions : ℕ → ℕ → ℕ → Shape
no_productions rules nonterminals start =
    record { grammar = record { start = start; rules = rules; productions = [] }; nonterminals = nonterminals }

-- `with_production g p`: the grammar with `p` as its last production
abbrev pub with_production : Shape → Production → Shape
with_production g p =
    record {
      grammar = record { start = g.grammar.start; rules = g.grammar.rules; productions = g.grammar.productions ++ p ∷ [] };
      nonterminals = g.nonterminals;
    }

-- `IsKnown g s`: the symbol's number is below its count
abbrev pub IsKnown : Shape → Symbol → Type 0
IsKnown g (Terminal a) = a < g.grammar.rules
IsKnown g (Nonterminal n) = n < g.nonterminals

-- all numbers are below their counts and fit in 64 bits, each symbol is productive, and no production is there twice
pub record IsSound (g : Shape) : Type 0 where
  pub start : g.grammar.start < g.nonterminals
  pub small : g.grammar.rules + g.nonterminals + 1 < 2 ^ 64
  pub left : (p n : ℕ) (right : List Symbol) → HasProduction g.grammar p n right → n < g.nonterminals
  pub right : (p n : ℕ) (right : List Symbol) → HasProduction g.grammar p n right → All (IsKnown g) right
  pub short : (p n : ℕ) (right : List Symbol) → HasProduction g.grammar p n right → length right < 2 ^ 64
  pub productive : AllProductive g.grammar
  pub distinct : HasDistinctProductions g.grammar

-- a row for each nonterminal, with the numbers of the productions that have it on the left, in ascending order
pub record AreByLeft (g : Shape) (rows : List (List ℕ)) : Type 0 where
  pub wide : length rows ≡ g.nonterminals
  pub theirs : (n : ℕ) → All (λ p. (p < length g.grammar.productions) × (left_of g.grammar p ≡ n)) (slice_index_or rows n [])
  pub all : (p : ℕ) → p < length g.grammar.productions → Contains (slice_index_or rows (left_of g.grammar p) []) p
  pub rising : (n : ℕ) → AllPairs (λ p q. p < q) (slice_index_or rows n [])
