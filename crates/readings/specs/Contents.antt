-- What is reported of a text by a grammar file, from its tokens and its trees.
use Rattle.std.specs.Prelude.{◌≡◌, ℕ, List, map, reverse}
use Rattle.definitions.specs.declared.Range.{Range}
use Rattle.definitions.specs.declared.Unit.{Unit as Encoding}
use Rattle.definitions.specs.Answers.{AreFolds, IsSelection, range_of}
use Rattle.definitions.specs.DocumentNodes.{IsNodeOf}
use Rattle.definitions.specs.Tokens.{Placed, Token, placed, significant}
use Rattle.definitions.specs.Trees.{Tree}
use Rattle.grammar.specs.Grammars.{FileGrammar}

-- the significant tokens at their places
abbrev pub placed_parts : FileGrammar → List Token → List Placed
placed_parts file tokens = significant file.skips (placed 0 tokens)

-- the lines that can be folded, for the nodes of these trees (`AreFolds`)
abbrev pub AreFoldsOf : FileGrammar → List ℕ → List Token → List Tree → List (ℕ × ℕ) → Type 0
AreFoldsOf file t tokens trees pairs = AreFolds t (placed_parts file tokens) file.folds (IsNodeOf file.grammar trees) pairs

-- what can be selected around offset `o`, from inner to outer, as ranges (`IsSelection`)
abbrev pub IsSelectionOf : Encoding → FileGrammar → List ℕ → List Token → List Tree → ℕ → List Range → Type 0
IsSelectionOf encoding file t tokens trees o ranges =
    (spans : List (ℕ × ℕ)) × IsSelection t (placed_parts file tokens) (IsNodeOf file.grammar trees) o spans
    × (ranges ≡ reverse (map (range_of encoding t) spans))
