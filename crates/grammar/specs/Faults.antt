-- The first fault of a grammar file.
use Rattle.std.specs.Prelude.{◌≡◌, ℕ, ◌<◌, Bool, true, false, List, ◌∷◌, ◌++◌, slice_get, Some}
use Rattle.std.specs.List.{list_any}
use Rattle.std.specs.Str.{bytes_eq}
use Rattle.definitions.specs.declared.Symbol.TheVariants.{Nonterminal}
use Rattle.definitions.specs.Sentences.{IsProductive}
use Rattle.grammar_line.specs.Words.{Word}
use Rattle.grammar_line.specs.Statements.{Line, Production, Statement, statements}
use Rattle.grammar_file.specs.Contents.{nonterminals}
use Rattle.grammar_file.specs.WrittenOut.{written_out}
use Rattle.grammar_file.specs.Faults.{IsWhole, HaveReferents, IsFileFault}
pub use Rattle.grammar_file.specs.Faults.{Cause, Unproductive}
pub use Rattle.grammar_file.specs.Causes.{cause_of}
pub use Rattle.grammar_file.specs.Texts.{fault_text}
use Rattle.grammar.specs.Contents.{grammar_of}

-- `is_production_of w line`: whether the line is a production of the nonterminal
abbrev pub is_production_of : Word → Line → Bool
is_production_of w (Production left right) = bytes_eq left w
is_production_of w _ = false

-- nonterminal `n` is the first one that is unproductive
pub record IsFirstUnproductive (ss : List Statement) (n : ℕ) : Type 0 where
  pub unproductive : ¬ IsProductive (grammar_of ss) (Nonterminal n)
  pub before : (m : ℕ) → m < n → IsProductive (grammar_of ss) (Nonterminal m)

-- the first production of the nonterminal `w` stands on line `n`, or on none, which is 0
abbrev pub IsFirstProduction : List Statement → Word → ℕ → Type 0
IsFirstProduction ss w n =
    (before after : List Statement)
    × ((s : Statement) × (ss ≡ before ++ (s ∷ after)) × (n ≡ s.number) × (list_any (λ r. is_production_of w r.says) before ≡ false)
    × (is_production_of w s.says ≡ true))

-- `IsFault text n cause`: the first fault of a file, at line `n`: one that lines and names show (`IsFileFault`), or an unproductive
-- nonterminal of the statements that are written out, at its first production
pub data IsFault (text : List ℕ) : ℕ → Cause → Type 0 where
  file_fault : (n : ℕ) (c : Cause) → IsFileFault text n c → IsFault text n c
  unproductive : (n k : ℕ) (w : Word) → IsWhole text → HaveReferents (statements text) (statements text)
      → IsFirstUnproductive (written_out (statements text)) k → slice_get (nonterminals (written_out (statements text))) k ≡ Some w
      → IsFirstProduction (written_out (statements text)) w n → IsFault text n (Unproductive w)
