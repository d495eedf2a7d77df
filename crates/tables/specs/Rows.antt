-- The moves of a state, by the column of what is next: the end, then the token rules.
use Rattle.std.specs.Prelude.{◌≡◌, ◌⊎◌, ◌+◌, ◌<◌, ℕ, List, Option, Some, None, length, slice_index_or, option_map}
use Rattle.definitions.specs.Trees.{Grammar}
use Rattle.tables.specs.declared.decisions.Move.{Move}
use Rattle.tables.specs.declared.decisions.Move.TheVariants.{Shift, Reduce, Accept}
use Rattle.tables.specs.declared.decisions.Clash.{Clash}
use Rattle.tables.specs.declared.decisions.Decided.{Decided}
use Rattle.tables.specs.declared.decisions.Decided.TheVariants.{Moves, Clash as AClash}
use Rattle.item_sets.specs.declared.item.Item.{Item}
use Rattle.tables.specs.declared.moves.Call.{Call}
use Rattle.tables.specs.declared.moves.Call.TheVariants.{Shift as ToShift, Reduce as ToReduce, Accept as ToAccept}
use Rattle.tables.specs.declared.moves.Decision.TheVariants.{Nothing, Agreed, Conflict}
use Rattle.productions.specs.Lookaheads.{lookahead_at}
use Rattle.tables.specs.Moves.{IsDecision}

-- the move of a state with this row whose items call for one thing
abbrev pub chosen : List (Option ℕ) → Option ℕ → Call → Option Move
chosen row None ToShift = None
chosen row (Some a) ToShift = option_map Shift (slice_index_or row a None)
chosen row look (ToReduce p) = Some (Reduce p)
chosen row look ToAccept = Some Accept

-- the move that the items call for, or none
abbrev pub IsChosen : Grammar → List Item → List (Option ℕ) → Option ℕ → Option Move → Type 0
IsChosen g items row look m = (IsDecision g items look Nothing × (m ≡ None))
    ⊎ ((c : Call) × IsDecision g items look (Agreed c) × (m ≡ chosen row look c))

-- the moves that the items call for, in each column
pub record AreChosen (g : Grammar) (items : List Item) (row : List (Option ℕ)) (moves : List (Option Move)) : Type 0 where
  pub filled : length moves ≡ g.rules + 1
  pub each : (k : ℕ) → k < length moves → IsChosen g items row (lookahead_at k) (slice_index_or moves k None)

-- two of the items call for different moves
abbrev pub IsClash : Grammar → List Item → Clash → Type 0
IsClash g items clash = IsDecision g items clash.look (Conflict clash.one clash.two)

abbrev pub IsDecided : Grammar → List Item → List (Option ℕ) → Decided → Type 0
IsDecided g items row (Moves moves) = AreChosen g items row moves
IsDecided g items row (AClash clash) = IsClash g items clash
