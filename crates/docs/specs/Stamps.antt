-- The stamps that an edit leaves in a document.
use Rattle.std.specs.Prelude.{ℕ, List, Option}
use Rattle.definitions.specs.declared.Edit.{Edit}
use Rattle.definitions.specs.declared.Range.{Range}
use Rattle.definitions.specs.TokenEdits.{Splice, splice}
use Rattle.definitions.specs.TreeEdits.{AreStampedExactly}
use Rattle.grammar.specs.Grammars.{FileGrammar}
use Rattle.lexer.specs.Rescans.{AreRescanned, plain_all}
use Rattle.parser.specs.Machine.{AreMadeBy, plain_of}
use Rattle.parser.specs.Stamps.{AreOlder, KeepStamps}
use Rattle.trees.specs.Cells.{all_trees, forest_in}
use Rattle.docs.specs.Docs.{last_edit}
use Rattle.readings.specs.Edits.{edit_of, number_after}
use Rattle.docs.specs.declared.doc.Doc.{Doc}

-- a change of a document's text, as the edit after its last one
abbrev pub next_edit : Doc → Option Range → List ℕ → Edit
next_edit d range s = edit_of d.unit d.text range s (number_after (last_edit d))

-- how an edit changes the kinds of the significant tokens
abbrev pub splice_between : FileGrammar → Edit → Doc → Doc → Splice
splice_between file e old new = splice file.skips e (plain_all old.tokens.items) (plain_all new.tokens.items)

-- the tokens and nodes that the edit keeps have the stamps that they had, and all others its number; where this number isn't above every
-- stamp of the nodes, no node is kept
pub record AreStamped (file : FileGrammar) (e : Edit) (old new : Doc) : Type 0 where
  pub tokens : AreRescanned e old.tokens.items new.tokens.items
  pub nodes : AreOlder e.number (all_trees old.store old.parse.stack)
      → AreStampedExactly e.number (splice_between file e old new) (plain_of old.store old.parse.stack)
      (all_trees new.store new.parse.stack)
  pub older : KeepStamps e.number (splice_between file e old new) (all_trees old.store old.parse.stack)
      (all_trees new.store new.parse.stack)
  pub anew : ¬ AreOlder e.number (all_trees old.store old.parse.stack) → AreMadeBy e.number (forest_in new.store new.parse.stack)
