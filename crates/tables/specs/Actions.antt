-- The moves of a state, for each prefix that it stands for.
use Rattle.std.specs.Prelude.{◌≡◌, ◌<◌, ◌≤◌, ◌+◌, ◌⊎◌, ℕ, List, [], ◌∷◌, ◌++◌, Option, Some, None, MatchOption, length, slice_index_or}
use Rattle.definitions.specs.declared.Symbol.{Symbol}
use Rattle.definitions.specs.declared.Symbol.TheVariants.{Rule as Terminal}
use Rattle.definitions.specs.Trees.{Grammar}
use Rattle.definitions.specs.Items.{Move as LrMove, Shift as LrShift, Reduce as LrReduce, Accept as LrAccept, kind_of, HasMove, IsConflict}
use Rattle.tables.specs.declared.decisions.Decided.{Decided}
use Rattle.tables.specs.declared.decisions.Decided.TheVariants.{Moves, Clash as AClash}
use Rattle.tables.specs.declared.decisions.Move.{Move}
use Rattle.tables.specs.declared.decisions.Move.TheVariants.{Shift, Reduce, Accept}
use Rattle.item_sets.specs.declared.item.Item.{Item}
use Rattle.tables.specs.declared.progress.ClashAt.{ClashAt}
use Rattle.item_sets.specs.Collection.{kernel_at}
use Rattle.tables.specs.Gotos.{AreGotos, HasSteps}
use Rattle.productions.specs.Lookaheads.{lookahead_at}
use Rattle.productions.specs.Productions.{Shape}
use Rattle.item_sets.specs.Sets.{IsItem, item_of}
use Rattle.item_sets.specs.States.{HasKernel}

-- the move, without the state that a shift leads to
abbrev pub plain : Move → LrMove
plain (Shift to) = LrShift
plain (Reduce p) = LrReduce p
plain Accept = LrAccept

-- a shift leads to the state of the longer prefix
abbrev pub LeadsOn : Grammar → List (List Item) → List Symbol → Option ℕ → Move → Type 0
LeadsOn g kernels prefix look (Shift to) = (a : ℕ) × (look ≡ Some a) × (to < length kernels)
    × HasKernel g (kernel_at kernels to) (prefix ++ Terminal a ∷ [])
LeadsOn g kernels prefix look (Reduce p) = Unit {0}
LeadsOn g kernels prefix look Accept = Unit {0}

-- the items valid for the prefix call for this move and no other
pub record IsOnlyMove (g : Grammar) (prefix : List Symbol) (look : Option ℕ) (move : LrMove) : Type 0 where
  pub has : HasMove g prefix (kind_of look) move
  pub only : (other : LrMove) → HasMove g prefix (kind_of look) other → other ≡ move

abbrev pub IsMoveAt : Grammar → List (List Item) → List Symbol → Option ℕ → Option Move → Type 0
IsMoveAt g kernels prefix look None = (move : LrMove) → HasMove g prefix (kind_of look) move → ⊥
IsMoveAt g kernels prefix look (Some m) = IsOnlyMove g prefix look (plain m) × LeadsOn g kernels prefix look m

-- the moves of the state s
pub record AreMoves (g : Grammar) (kernels : List (List Item)) (s : ℕ) (moves : List (Option Move)) : Type 0 where
  pub filled : length moves ≡ g.rules + 1
  pub each : (k : ℕ) → k < length moves → (prefix : List Symbol) → HasKernel g (kernel_at kernels s) prefix
      → IsMoveAt g kernels prefix (lookahead_at k) (slice_index_or moves k None)

-- two items of a state that conflict
pub record IsClashAt (g : Shape) (kernels : List (List Item)) (f : ClashAt) : Type 0 where
  pub below : f.state < length kernels
  pub one : IsItem g f.clash.one
  pub two : IsItem g f.clash.two
  pub conflict : (prefix : List Symbol) → HasKernel g.grammar (kernel_at kernels f.state) prefix
      → IsConflict g.grammar prefix (kind_of f.clash.look) (item_of g.grammar f.clash.one) (item_of g.grammar f.clash.two)

-- the gotos and moves made so far, and the first conflict
pub record Made : Type 0 where
  pub gotos : List (List (Option ℕ))
  pub moves : List (List (Option Move))
  pub clash : Option ClashAt

-- the moves of a state more, or a conflict
abbrev pub AddsMoves : Made → Made → Decided → Type 0
AddsMoves old new (Moves moves) = (new.moves ≡ old.moves ++ moves ∷ []) × (new.clash ≡ old.clash)
AddsMoves old new (AClash clash) = (new.moves ≡ old.moves)
    × (((f : ClashAt) × (old.clash ≡ Some f) × (new.clash ≡ Some f))
    ⊎ ((old.clash ≡ None) × (new.clash ≡ Some (record { state = length old.gotos; clash = clash }))))

-- each state has its moves
pub record AreAllMoves (g : Grammar) (kernels : List (List Item)) (t : Made) : Type 0 where
  pub filled : length t.moves ≡ length t.gotos
  pub each : (s : ℕ) → s < length t.moves → AreMoves g kernels s (slice_index_or t.moves s [])

-- the gotos of the first states, and their moves unless there is a conflict
pub record AreMade (g : Shape) (kernels : List (List Item)) (t : Made) : Type 0 where
  pub within : length t.gotos ≤ length kernels
  pub steps : (s : ℕ) → s < length t.gotos → HasSteps g kernels s
  pub gotos : (s : ℕ) → s < length t.gotos → AreGotos g kernels s (slice_index_or t.gotos s [])
  pub moves : MatchOption t.clash (AreAllMoves g.grammar kernels t) (λ f. IsClashAt g kernels f)
