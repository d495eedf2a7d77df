-- The edits of a document, and how much they make.
use Rattle.std.specs.Prelude.{◌≡◌, ◌⊎◌, ℕ, ◌+◌, ◌-◌, ◌*◌, ◌<◌, ◌≤◌, min, List, length, Option, Some, None, true}
use Rattle.definitions.specs.declared.Edit.{Edit}
use Rattle.definitions.specs.declared.Range.{Range}
use Rattle.definitions.specs.declared.Stats.{Stats}
use Rattle.definitions.specs.declared.Unit.{Unit as Encoding}
use Rattle.definitions.specs.Nodes.{all_branches}
use Rattle.definitions.specs.Text.{changed, span}
use Rattle.definitions.specs.TokenEdits.{made, splice}
use Rattle.definitions.specs.TreeEdits.{Built}
use Rattle.readings.specs.Answers.{Reading, IsReading}
use Rattle.readings.specs.Texts.{LastEdit, OpenDocument, fits}
use Rattle.grammar.specs.Grammars.{FileGrammar}

-- `number_of last`: the number of the last edit, 0 where there is none
abbrev pub number_of : Option LastEdit → ℕ
number_of None = 0
number_of (Some last) = last.number

-- the number of the next edit: one more, up to the greatest of 64 bits, which all later ones have
abbrev pub number_after : Option LastEdit → ℕ
number_after last = min (number_of last + 1) 18_446_744_073_709_551_615

-- `IsAbove last number`: the number is above every stamp in the document: above the last edit's; or equal to it, where the numbers have
-- ended and that edit made no node
abbrev pub IsAbove : Option LastEdit → ℕ → Type 0
IsAbove None number = 0 < number
IsAbove (Some last) number = (last.number < number) ⊎ ((last.number ≡ number) × (last.built ≡ 0))

-- a change of a text as the edit of this number
abbrev pub edit_of : Encoding → List ℕ → Option Range → List ℕ → ℕ → Edit
edit_of encoding text range s number =
    let away = span encoding text range in
    record { at = away.0; removed = away.1 - away.0; inserted = length s; number = number }

-- what an edit makes of an old reading and a new one: the number of tokens that it doesn't keep (`made`), and of nodes that lie in no kept
-- one (`Built`); of all nodes, where its number isn't above every stamp
pub record Makes (file : FileGrammar) (e : Edit) (last : Option LastEdit) (old new : Reading) (next : LastEdit) : Type 0 where
  pub number : next.number ≡ e.number
  pub scanned : next.scanned ≡ length (made e old.tokens new.tokens)
  pub built : IsAbove last e.number → Built (splice file.skips e old.tokens new.tokens) old.trees 0 new.trees next.built
  pub all_built : ¬ IsAbove last e.number → next.built ≡ all_branches new.trees

-- after the last edit, that change of the text is the edit `next`: it `Makes` so much of the readings of both texts
pub record IsNext (encoding : Encoding) (file : FileGrammar) (text : List ℕ) (range : Option Range) (s : List ℕ) (last : Option LastEdit)
    (next : LastEdit) : Type 0 where
  pub old : Reading
  pub new : Reading
  pub was : IsReading file text old
  pub is : IsReading file (changed encoding text range s) new
  pub makes : Makes file (edit_of encoding text range s (number_after last)) last old new next

-- `ReportsLast last stats`: the counts give the last edit's number and what it made, or, where there was none, that opening made all
abbrev pub ReportsLast : Option LastEdit → Stats → Type 0
ReportsLast None stats = (stats.edit ≡ 0) × (stats.scanned ≡ stats.tokens) × (stats.built ≡ stats.branches)
ReportsLast (Some last) stats = (stats.edit ≡ last.number) × (stats.scanned ≡ last.scanned) × (stats.built ≡ last.built)

-- `AreStats file document stats`: the counts of a document: the tokens and the branches of its reading; what `ReportsLast`; and at most `2
-- * branches + 1024` nodes in memory
pub record AreStats (file : FileGrammar) (d : OpenDocument) (stats : Stats) : Type 0 where
  pub reading : Reading
  pub is : IsReading file d.text reading
  pub tokens : stats.tokens ≡ length reading.tokens
  pub branches : stats.branches ≡ all_branches reading.trees
  pub last : ReportsLast d.last stats
  pub nodes : stats.nodes ≤ 2 * stats.branches + 1024

-- `without_nodes stats`: the counts but for the nodes in memory
abbrev pub without_nodes : Stats → Stats
without_nodes s =
    record { edit = s.edit; scanned = s.scanned; tokens = s.tokens; branches = s.branches; built = s.built; nodes = 0 }

-- of each edit at most one answer is given, and of each document at most one, but for the nodes in memory
pub record CountsOnce (file : FileGrammar) : Type 0 where
  pub edits : (encoding : Encoding) (t : List ℕ) (range : Option Range) (s : List ℕ) (last : Option LastEdit) (one other : LastEdit)
      → IsNext encoding file t range s last one → IsNext encoding file t range s last other → other ≡ one
  pub stats : (d : OpenDocument) (one other : Stats) → AreStats file d one → AreStats file d other
      → without_nodes other ≡ without_nodes one

-- of each change of a text an answer is given (`IsNext`), where the text fits before and after it
abbrev pub AlwaysCounts : FileGrammar → Type 0
AlwaysCounts file = (encoding : Encoding) (t : List ℕ) (range : Option Range) (s : List ℕ) (last : Option LastEdit)
    → fits t ≡ true → fits (changed encoding t range s) ≡ true → (next : LastEdit) × IsNext encoding file t range s last next
