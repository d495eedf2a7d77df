-- What the lines of a file give its grammar.
use Rattle.std.specs.Prelude.{◌≡◌, ℕ, ◌<◌, List, Some, length, slice_get}
use Rattle.definitions.specs.declared.Symbol.TheVariants.{Nonterminal}
use Rattle.definitions.specs.Sentences.{IsProductive}
use Rattle.grammar_line.specs.Words.{Word}
use Rattle.grammar_line.specs.Statements.{Statement}
use Rattle.grammar_file.specs.Contents.{nonterminals}
use Rattle.grammar_file.specs.Faults.{Cause, Unproductive}
use Rattle.grammar.specs.declared.read.Parts.{Parts}
use Rattle.grammar.specs.Contents.{grammar_of}
use Rattle.grammar.specs.Faults.{IsFirstUnproductive, IsFirstProduction}
use Rattle.grammar.specs.Grammars.{FileGrammar}

-- each nonterminal of the statements is productive
abbrev pub AreProductive : List Statement → Type 0
AreProductive ss = (n : ℕ) → n < length (nonterminals ss) → IsProductive (grammar_of ss) (Nonterminal n)

-- the cause is the first nonterminal that isn't, and the line that of its first production
abbrev pub IsUnproductive : List Statement → ℕ → Cause → Type 0
IsUnproductive ss line c =
    (n : ℕ) × ((w : Word) × (slice_get (nonterminals ss) n ≡ Some w) × (c ≡ Unproductive w) × IsFirstUnproductive ss n
    × IsFirstProduction ss w line)

-- the parts are those of the grammar
pub record AreParts (parts : Parts) (f : FileGrammar) : Type 0 where
  pub names : parts.names.items ≡ f.names
  pub skips : parts.skips.items ≡ f.skips
  pub nonterminals : parts.nonterminals.items ≡ f.nonterminals
  pub folds : parts.folds.items ≡ f.folds
  pub start : parts.start ≡ f.grammar.start
