-- What a grammar file defines.
use Rattle.std.specs.Prelude.{◌≡◌, ℕ, ◌<◌, ◌≤◌, Bool, false, List, All, length, map, slice_index_or}
use Rattle.definitions.specs.declared.Symbol.{Symbol}
use Rattle.definitions.specs.declared.Symbol.TheVariants.{Rule as Terminal, Nonterminal}
use Rattle.definitions.specs.declared.expression.Expression.{Expression}
use Rattle.definitions.specs.Trees.{Grammar, Production, HasProduction, HasDistinctProductions}
use Rattle.definitions.specs.Sentences.{IsProductive}
use Rattle.grammar.specs.Lexicon.{Lexicon}

-- what a file defines: the token and skip rules, numbered in file order, with their names, their patterns and whether they are skipped; the
-- nonterminals, numbered by their first productions, with their names and whether they fold; the grammar in these numbers; and all defined
-- symbols in file order, each once
pub record FileGrammar : Type 0 where
  pub names : List (List ℕ)
  pub patterns : List Expression
  pub skips : List Bool
  pub nonterminals : List (List ℕ)
  pub folds : List Bool
  pub grammar : Grammar
  pub defined : List Symbol

-- `stored names patterns skips nonterminals folds start productions defined`: what a file with these parts defines
abbrev pub stored : List (List ℕ) → List Expression → List Bool → List (List ℕ) → List Bool → ℕ → List Production → List Symbol
    → FileGrammar
stored names patterns skips nonterminals folds start productions defined =
    record {
      names = names;
      patterns = patterns;
      skips = skips;
      nonterminals = nonterminals;
      folds = folds;
      grammar = record { start = start; rules = length names; productions = productions };
      defined = defined;
    }

-- the token and skip rules of what a file defines
abbrev pub lexicon_of : FileGrammar → Lexicon
lexicon_of f = record { patterns = f.patterns; skips = f.skips }

-- `IsKnown f s`: the symbol's number is one that the file defines
abbrev pub IsKnown : FileGrammar → Symbol → Type 0
IsKnown f (Terminal k) = k < length f.names
IsKnown f (Nonterminal n) = n < length f.nonterminals

-- `IsUsable f s`: the symbol may stand on a right side: its number is one that the file defines, and it is no skip rule
abbrev pub IsUsable : FileGrammar → Symbol → Type 0
IsUsable f (Terminal k) = (k < length f.names) × (slice_index_or f.skips k false ≡ false)
IsUsable f (Nonterminal n) = n < length f.nonterminals

-- what holds of each grammar that a file defines: the limits are kept, the numbers are in range, right sides are usable, no production is
-- there twice, and each nonterminal is productive
pub record IsGrammar (f : FileGrammar) : Type 0 where
  pub rules : f.grammar.rules ≡ length f.names
  pub patterns : length f.patterns ≡ length f.names
  pub skips : length f.skips ≡ length f.names
  pub folds : length f.folds ≡ length f.nonterminals
  pub few_rules : length f.names ≤ 256
  pub few_nonterminals : length f.nonterminals ≤ 256
  pub few_productions : length f.grammar.productions ≤ 1024
  pub start : f.grammar.start < length f.nonterminals
  pub left : (p n : ℕ) (right : List Symbol) → HasProduction f.grammar p n right → n < length f.nonterminals
  pub right : (p n : ℕ) (right : List Symbol) → HasProduction f.grammar p n right → All (IsUsable f) right
  pub short : (p n : ℕ) (right : List Symbol) → HasProduction f.grammar p n right → length right ≤ 16
  pub distinct : HasDistinctProductions f.grammar
  pub productive : (n : ℕ) → n < length f.nonterminals → IsProductive f.grammar (Nonterminal n)
  pub defined : All (IsKnown f) f.defined

-- the left sides of the productions, in file order
abbrev pub lefts : FileGrammar → List ℕ
lefts f = map (λ p. p.left) f.grammar.productions
