-- What the rows of tokens and the text of a tree are, for a grammar file, a text and stored tokens, and a store of nodes.
use Rattle.std.specs.Prelude.{◌≡◌, ℕ, ◌++◌, List, length, map, flat_map, codes, string_bytes, encode_utf8_all}
use Rattle.std.specs.Str.{chars}
use Rattle.definitions.specs.declared.Range.{Range}
use Rattle.definitions.specs.declared.Row.{Row as SharedRow}
use Rattle.definitions.specs.declared.Unit.{Unit as Encoding}
use Rattle.definitions.specs.Answers.{token_rows}
use Rattle.definitions.specs.DocumentNodes.{tree_text}
use Rattle.definitions.specs.Tokens.{placed}
use Rattle.definitions.specs.Trees.{Tree}
use Rattle.definitions.specs.TreeEdits.{plain}
use Rattle.grammar.specs.Grammars.{FileGrammar, lefts}
use Rattle.lexer.specs.declared.sums.Token.{Token}
use Rattle.lexer.specs.Tokens as of
use Rattle.trees.specs.declared.store.NodeId.{NodeId}
use Rattle.trees.specs.declared.store.Child.{Child}
use Rattle.trees.specs.declared.store.Child.TheVariants.{Node}
use Rattle.trees.specs.Cells.{Cell, tree, AreBelow}
use Rattle.views.specs.declared.rows.Row.{Row}

-- `row_of row`: what a row says: its name as characters, and its range
abbrev pub row_of : Row → List ℕ × Range
row_of r = (chars r.name.now, r.range)

-- `row_bytes row`: what a row says: its name as bytes, and its range
abbrev pub row_bytes : Row → List ℕ × Range
row_bytes r = (r.name.now, r.range)

-- `shared_bytes row`: what a row with a shared name says: its name as bytes, and its range
abbrev pub shared_bytes : SharedRow → List ℕ × Range
shared_bytes r = (string_bytes r.name.value, r.range)

-- `in_utf8 row`: a row with its name in UTF-8
abbrev pub in_utf8 : List ℕ × Range → List ℕ × Range
in_utf8 r = (encode_utf8_all r.0, r.1)

-- the rows of stored tokens of which the first starts at offset `o`
abbrev pub rows_from : Encoding → FileGrammar → List ℕ → ℕ → List Token → List (List ℕ × Range)
rows_from encoding f t o items = token_rows encoding f.names t (placed o (map of.plain items))

-- the rows of all stored tokens of `t`
abbrev pub rows_of : Encoding → FileGrammar → List ℕ → List Token → List (List ℕ × Range)
rows_of encoding f t items = rows_from encoding f t 0 items

-- the text of the tree `t`
abbrev pub text_of : FileGrammar → Tree → List ℕ
text_of f t = tree_text f.names f.nonterminals (lefts f) t

-- what is left of a node's text from these children on, its last ones
abbrev pub rest_text : FileGrammar → List Cell → List Child → List ℕ
rest_text f cells children = flat_map (λ c. codes " " ++ text_of f (plain (tree cells c))) children ++ codes ")"

-- to `old` was appended a node's text up to these children, its last ones
pub record IsBegun (f : FileGrammar) (cells : List Cell) (id : NodeId) (old new : List ℕ) (children : List Child) : Type 0 where
  pub prefix : List ℕ
  pub written : chars new ≡ chars old ++ prefix
  pub rest : prefix ++ rest_text f cells children ≡ text_of f (plain (tree cells (Node id)))
  pub below : AreBelow (length cells) children
