-- What a change makes of a parse.
use Rattle.std.specs.Prelude.{◌≡◌, ℕ, ◌+◌, ◌≤◌, List, length}
use Rattle.definitions.specs.declared.Kind.{Kind}
use Rattle.definitions.specs.TokenEdits.{Splice}
use Rattle.definitions.specs.TreeEdits.{AreStampedExactly, Built}
use Rattle.tables.specs.Tables.{Sets}
use Rattle.trees.specs.Cells.{Cell, all_trees, forest_in}
use Rattle.parser.specs.Compact.{IsLonger, bound}
use Rattle.parser.specs.Machine.{AreMadeBy, plain_of}
use Rattle.parser.specs.Parses.{IsParseOf, Stop}
use Rattle.parser.specs.Stamps.{AddsNumbered, AreOlder, KeepStamps}

-- `IsParseAfter t kinds change edit old_cells old cells new`: `new` is the parse of these kinds after the splice `change`, as the edit of
-- this number. Where the number is above every stamp of the old nodes, exactly those are made that lie in no kept one; else all are. Kept
-- nodes have the stamps that they had. The store stays within its bound; where no node had to be given up, it only gained those made
pub record IsParseAfter (t : Sets) (kinds : List Kind) (change : Splice) (edit : ℕ) (old_cells : List Cell) (old : Stop)
    (cells : List Cell) (new : Stop) : Type 0 where
  pub parse : IsParseOf t kinds cells new
  pub number : new.number ≡ edit
  pub stamps : AreOlder edit (all_trees old_cells old.stack)
      → AreStampedExactly edit change (plain_of old_cells old.stack) (all_trees cells new.stack)
  pub older : KeepStamps edit change (all_trees old_cells old.stack) (all_trees cells new.stack)
  pub built : AreOlder edit (all_trees old_cells old.stack)
      → Built change (plain_of old_cells old.stack) 0 (plain_of cells new.stack) new.built
  pub anew : ¬ AreOlder edit (all_trees old_cells old.stack) → AreMadeBy edit (forest_in cells new.stack)
  pub bounded : length cells ≤ bound new.branches
  pub kept : length old_cells + new.built ≤ bound new.branches
      → IsLonger old_cells new.built cells × AddsNumbered edit old_cells cells (all_trees cells new.stack)
