-- The language of a grammar file.
use Rattle.std.specs.Prelude.{◌≡◌, ℕ, List, Some}
use Rattle.definitions.specs.Items.{HasMoreSetsThan, HasNoConflict}
use Rattle.dfa.specs.Positions.{HasMoreStatesThan}
use Rattle.grammar.specs.Faults.{Cause, cause_of, IsFault}
use Rattle.grammar.specs.Grammars.{FileGrammar}
use Rattle.grammar.specs.Meaning.{IsGrammarOf}
use Rattle.tables.specs.Reports.{IsReport}
use Rattle.tables.specs.Tables.{Sets}
use Rattle.docs.specs.declared.language.LoadFault.{LoadFault}
use Rattle.docs.specs.declared.language.LoadFault.TheVariants as load

-- the text is a grammar file that defines this, its automaton and tables are within their limits, and no set of items has a conflict
pub record IsLanguageOf (text : List ℕ) (file : FileGrammar) : Type 0 where
  pub grammar : IsGrammarOf text file
  pub few_states : HasMoreStatesThan file.patterns 4096 → ⊥
  pub few_sets : HasMoreSetsThan file.grammar 8192 → ⊥
  pub free : HasNoConflict file.grammar

-- the text is a grammar file that defines this, and its automaton is within its limit
pub record HasAutomaton (text : List ℕ) (file : FileGrammar) : Type 0 where
  pub grammar : IsGrammarOf text file
  pub few_states : HasMoreStatesThan file.patterns 4096 → ⊥

-- `IsLoadFault text fault`: the text defines no language, for the first cause in the order of the tests; memory may be wanting at any time
abbrev pub IsLoadFault : List ℕ → LoadFault → Type 0
IsLoadFault text (load.Grammar fault) = (cause : Cause) × (cause_of fault.cause ≡ Some cause) × IsFault text fault.line cause
IsLoadFault text load.TooManyStates = (file : FileGrammar) × IsGrammarOf text file × HasMoreStatesThan file.patterns 4096
IsLoadFault text load.TooManySets = (file : FileGrammar) × HasAutomaton text file × HasMoreSetsThan file.grammar 8192
IsLoadFault text (load.Conflict file conflict) = HasAutomaton text file × (HasMoreSetsThan file.grammar 8192 → ⊥)
    × IsReport file.grammar conflict
IsLoadFault text load.Memory = Unit {0}

-- what callers see of a language: what its file defines, and its tables
pub record LanguageData : Type 0 where
  pub file : FileGrammar
  pub tables : Sets
