-- The canonical collection: the sets of items by their kernels, and where a symbol leads from each.
use Rattle.std.specs.Prelude.{◌≡◌, ◌⊎◌, ◌<◌, ◌≤◌, ◌+◌, ℕ, List, [], ◌∷◌, ◌++◌, Option, None, MatchOption, length, slice_index_or}
use Rattle.definitions.specs.declared.Symbol.{Symbol}
use Rattle.definitions.specs.declared.Symbol.TheVariants.{Rule as Terminal}
use Rattle.definitions.specs.Trees.{Grammar}
use Rattle.definitions.specs.Items.{HasItem}
use Rattle.item_sets.specs.declared.collection.Origin.{Origin}
use Rattle.item_sets.specs.declared.item.Item.{Item}
use Rattle.productions.specs.Productions.{Shape, IsSound}
use Rattle.item_sets.specs.Order.{IsOrdered}
use Rattle.productions.specs.Symbols.{symbol_of}
use Rattle.item_sets.specs.States.{HasKernel}

-- the kernel of state `s`
abbrev pub kernel_at : List (List Item) → ℕ → List Item
kernel_at kernels s = slice_index_or kernels s []

-- no kernel is this one
abbrev pub IsAbsent : List (List Item) → List Item → Type 0
IsAbsent kernels kernel = (s : ℕ) → s < length kernels → kernel_at kernels s ≡ kernel → ⊥

-- the kernels of the sets found so far, and how each was first reached
pub record Found : Type 0 where
  pub kernels : List (List Item)
  pub origins : List Origin

abbrev pub origin_at : List Origin → ℕ → Origin
origin_at origins s = slice_index_or origins s (record { from = 0; symbol = Terminal 0 })

-- some prefix with an item has this kernel
abbrev pub IsReached : Grammar → List Item → Type 0
IsReached g kernel = (prefix : List Symbol) × HasKernel g kernel prefix × HasItem g prefix

-- the state s was reached from an earlier one
pub record IsLed (g : Grammar) (t : Found) (s : ℕ) : Type 0 where
  pub earlier : (origin_at t.origins s).from < s
  pub leads : (prefix : List Symbol) → HasKernel g (kernel_at t.kernels (origin_at t.origins s).from) prefix
      → HasKernel g (kernel_at t.kernels s) (prefix ++ (origin_at t.origins s).symbol ∷ [])

-- `AreStates g found`: the kernels of sets of prefixes, each once, with how each was first reached; the first is that of the empty prefix
pub record AreStates (g : Shape) (t : Found) : Type 0 where
  pub sound : IsSound g
  pub begins : 0 < length t.kernels
  pub start : kernel_at t.kernels 0 ≡ record { production = None; at = 0; look = None } ∷ []
  pub ordered : (s : ℕ) → s < length t.kernels → IsOrdered g (kernel_at t.kernels s)
  pub reached : (s : ℕ) → s < length t.kernels → IsReached g.grammar (kernel_at t.kernels s)
  pub distinct : (s : ℕ) → s < length t.kernels → (r : ℕ) → r < s → kernel_at t.kernels r ≡ kernel_at t.kernels s → ⊥
  pub long : length t.origins ≡ length t.kernels
  pub led : (s : ℕ) → 0 < s → s < length t.kernels → IsLed g.grammar t s

-- the states are the old ones, and this one at most
abbrev pub Placed : Found → Found → List Item → ℕ → Symbol → Type 0
Placed old new kernel from symbol = (new ≡ old)
    ⊎ ((new.kernels ≡ old.kernels ++ kernel ∷ []) × (new.origins ≡ old.origins ++ record { from = from; symbol = symbol } ∷ [])
    × IsAbsent old.kernels kernel)

-- the list of kernels `new` begins with `old`
pub record GoesOn (old new : List (List Item)) : Type 0 where
  pub longer : length old ≤ length new
  pub same : (s : ℕ) → s < length old → kernel_at new s ≡ kernel_at old s

-- where a symbol leads from state `s`: to no set, or to the state of the longer prefix
abbrev pub IsStep : Grammar → List (List Item) → ℕ → Symbol → Option ℕ → Type 0
IsStep g kernels s symbol to =
    MatchOption to
    ((prefix : List Symbol) → HasKernel g (kernel_at kernels s) prefix → HasItem g (prefix ++ symbol ∷ []) → ⊥)
    (λ t. (t < length kernels)
    × ((prefix : List Symbol) → HasKernel g (kernel_at kernels s) prefix → HasKernel g (kernel_at kernels t) (prefix ++ symbol ∷ [])))

-- for each symbol by its number, where it leads from state `s`
pub record IsRow (g : Shape) (kernels : List (List Item)) (s : ℕ) (row : List (Option ℕ)) : Type 0 where
  pub filled : length row ≡ g.grammar.rules + g.nonterminals
  pub steps : (k : ℕ) → k < length row → IsStep g.grammar kernels s (symbol_of g.grammar k) (slice_index_or row k None)
