-- What answers are made of, which the layers below a document have.
use Rattle.std.specs.Prelude.{◌≤◌, ℕ, Bool, List, [], length}
use Rattle.definitions.specs.declared.Kind.{Kind}
use Rattle.definitions.specs.declared.Range.{Range}
use Rattle.definitions.specs.declared.Symbol.{Symbol}
use Rattle.definitions.specs.declared.Unit.{Unit as Encoding}
use Rattle.definitions.specs.Sentences.{IsExpected, IsVerdict, IsViable, Verdict}
use Rattle.definitions.specs.Settled.{IsSettled}
use Rattle.definitions.specs.Text.{IsText}
use Rattle.definitions.specs.Tokens.{Token, AreTokens, kinds}
use Rattle.definitions.specs.Trees.{HaveRoots, Tree, all_kinds}
use Rattle.grammar.specs.Grammars.{FileGrammar}
use Rattle.readings.specs.Contents.{AreFoldsOf, IsSelectionOf}

-- each text has tokens, each list of kinds a verdict and, where a sentence begins with it, settled trees and what may follow it; and
-- all trees have folds, and each offset a selection in them
pub record LayersAnswer (file : FileGrammar) : Type 0 where
  pub tokens : (t : List ℕ) → IsText t → (xs : List Token) × AreTokens file.patterns t xs
  pub verdicts : (x : List Kind) → (v : Verdict) × IsVerdict file.grammar x v
  pub begins : IsViable file.grammar []
  pub settled : (x : List Kind) → IsViable file.grammar x → (lefts : List Tree) × IsSettled file.grammar x lefts
  pub expected : (x : List Kind) → IsViable file.grammar x
      → (rules : List ℕ) × (at_end : Bool) × IsExpected file.grammar x rules at_end
  pub folds : (t : List ℕ) (tokens : List Token) (trees : List Tree) → (pairs : List (ℕ × ℕ)) × AreFoldsOf file t tokens trees pairs
  pub selections : (encoding : Encoding) (t : List ℕ) (tokens : List Token) (trees : List Tree) (symbols : List Symbol)
      → AreTokens file.patterns t tokens → HaveRoots file.grammar trees symbols
      → length (all_kinds trees) ≤ length (kinds file.skips tokens)
      → (o : ℕ) → (ranges : List Range) × IsSelectionOf encoding file t tokens trees o ranges
