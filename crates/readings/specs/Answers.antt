-- What a text is by a grammar file, and what is reported of it.
use Rattle.std.specs.Prelude.{◌≡◌, ℕ, List, [], ◌∷◌, map, Option, Some, None, option_map, encode_utf8_all, true}
use Rattle.definitions.specs.declared.Diagnostic.{Diagnostic as Stored}
use Rattle.definitions.specs.declared.Position.{Position}
use Rattle.definitions.specs.declared.Range.{Range}
use Rattle.definitions.specs.declared.Unit.{Unit as Encoding}
pub use Rattle.definitions.specs.Answers.{Diagnostic}
use Rattle.definitions.specs.Answers.{token_rows}
use Rattle.definitions.specs.DocumentNodes.{AreDocumentTrees, tree_text}
use Rattle.definitions.specs.Sentences.{Verdict, HasTree, FaultAt, FaultAtEnd, IsVerdict}
use Rattle.definitions.specs.Text.{offset}
use Rattle.definitions.specs.Tokens.{Token, AreTokens, placed, kinds}
use Rattle.definitions.specs.Trees.{Tree}
use Rattle.grammar.specs.Grammars.{FileGrammar, lefts}
use Rattle.readings.specs.Contents.{AreFoldsOf, IsSelectionOf}
use Rattle.readings.specs.Diagnostics.{IsDiagnosis, in_utf8, stored_diagnostic}
use Rattle.readings.specs.Texts.{fits}

-- what a text is by a grammar file: its tokens, the verdict on their kinds, and its trees
pub record Reading : Type 0 where
  pub tokens : List Token
  pub verdict : Verdict
  pub trees : List Tree

-- this is what the text is: its tokens, the verdict on their kinds, and its tree, or what is settled before the fault
pub record IsReading (file : FileGrammar) (text : List ℕ) (reading : Reading) : Type 0 where
  pub tokens : AreTokens file.patterns text reading.tokens
  pub verdict : IsVerdict file.grammar (kinds file.skips reading.tokens) reading.verdict
  pub trees : AreDocumentTrees file.grammar (kinds file.skips reading.tokens) reading.verdict reading.trees

-- `Reads file text Reports`: the text has a reading of which `Reports` holds
abbrev pub Reads : FileGrammar → List ℕ → (Reading → Type 0) → Type 0
Reads file text Reports = (reading : Reading) × IsReading file text reading × Reports reading

-- the names of tokens in UTF-8, and their ranges
abbrev pub rows : Encoding → FileGrammar → List ℕ → List Token → List (List ℕ × Range)
rows encoding file text tokens = map (λ r. (encode_utf8_all r.0, r.1)) (token_rows encoding file.names text (placed 0 tokens))

-- the text of a tree in UTF-8
abbrev pub tree_bytes : FileGrammar → Tree → List ℕ
tree_bytes file t = encode_utf8_all (tree_text file.names file.nonterminals (lefts file) t)

-- `written_tree file verdict`: the `tree_bytes` of the tree that a verdict has, if it has one
abbrev pub written_tree : FileGrammar → Verdict → Option (List ℕ)
written_tree file (HasTree t) = Some (tree_bytes file t)
written_tree file (FaultAt k) = None
written_tree file FaultAtEnd = None

-- `AreSelections encoding file text reading positions selections`: what can be selected around each of these positions, in order
abbrev pub AreSelections : Encoding → FileGrammar → List ℕ → Reading → List Position → List (List Range) → Type 0
AreSelections encoding file text reading [] selections = selections ≡ []
AreSelections encoding file text reading (p ∷ positions) selections =
    (first : List Range) × (others : List (List Range)) × (selections ≡ first ∷ others)
    × IsSelectionOf encoding file text reading.tokens reading.trees (offset encoding text p) first
    × AreSelections encoding file text reading positions others

-- a diagnostic of the code reports this fault, its message in UTF-8; or both are none
abbrev pub IsReported : Option Stored → Option Diagnostic → Type 0
IsReported reported fault = option_map stored_diagnostic reported ≡ option_map in_utf8 fault

-- each text that fits has a reading, and each reading has its fault or none, its folds and its selections
pub record AlwaysAnswers (file : FileGrammar) : Type 0 where
  pub readings : (t : List ℕ) → fits t ≡ true → (r : Reading) × IsReading file t r
  pub faults : (encoding : Encoding) (t : List ℕ) (r : Reading) → IsReading file t r
      → (fault : Option Diagnostic) × IsDiagnosis encoding file t r.tokens r.verdict fault
  pub folds : (t : List ℕ) (r : Reading) → IsReading file t r → (pairs : List (ℕ × ℕ)) × AreFoldsOf file t r.tokens r.trees pairs
  pub selections : (encoding : Encoding) (t : List ℕ) (r : Reading) → IsReading file t r → (positions : List Position)
      → (selections : List (List Range)) × AreSelections encoding file t r positions selections

-- each text has at most one reading, and each reading at most one fault, list of folds and list of selections
pub record AnswersOnce (file : FileGrammar) : Type 0 where
  pub readings : (t : List ℕ) (r s : Reading) → IsReading file t r → IsReading file t s → s ≡ r
  pub faults : (encoding : Encoding) (t : List ℕ) (r : Reading) (one other : Option Diagnostic)
      → IsDiagnosis encoding file t r.tokens r.verdict one
      → IsDiagnosis encoding file t r.tokens r.verdict other → other ≡ one
  pub folds : (t : List ℕ) (r : Reading) (one other : List (ℕ × ℕ)) → AreFoldsOf file t r.tokens r.trees one
      → AreFoldsOf file t r.tokens r.trees other → other ≡ one
  pub selections : (encoding : Encoding) (t : List ℕ) (r : Reading) (positions : List Position) (one other : List (List Range))
      → AreSelections encoding file t r positions one → AreSelections encoding file t r positions other → other ≡ one
