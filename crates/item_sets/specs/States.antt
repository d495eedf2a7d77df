-- What the sets of items of the collection are: those of prefixes.
use Rattle.std.specs.Prelude.{◌≡◌, ◌<◌, ◌+◌, ℕ, Some, List, [], ◌∷◌, ◌++◌, All, Contains, length, slice_index_or}
use Rattle.definitions.specs.declared.Symbol.{Symbol}
use Rattle.definitions.specs.Trees.{Grammar}
use Rattle.definitions.specs.Derivations.{first}
use Rattle.definitions.specs.Items.{Item as LrItem, IsValid}
use Rattle.theory.specs.Closure.{IsKernel}
use Rattle.item_sets.specs.declared.item.Item.{Item}
use Rattle.item_sets.specs.Order.{IsRising, IsOrdered}
use Rattle.productions.specs.Productions.{Shape}
use Rattle.item_sets.specs.Sets.{item_of, after_dot, IsItem}

-- these are the items valid for the prefix
pub record HasSet (g : Grammar) (items : List Item) (prefix : List Symbol) : Type 0 where
  pub sound : (i : Item) → Contains items i → IsValid g prefix (item_of g i)
  pub complete : (k : LrItem) → IsValid g prefix k → (i : Item) × Contains items i × (item_of g i ≡ k)

-- these are the items valid for the prefix that the closure doesn't add
pub record HasKernel (g : Grammar) (kernel : List Item) (prefix : List Symbol) : Type 0 where
  pub sound : (i : Item) → Contains kernel i → IsValid g prefix (item_of g i)
  pub complete : (k : LrItem) → IsKernel k → IsValid g prefix k → (i : Item) × Contains kernel i × (item_of g i ≡ k)

abbrev pub step : Item → Item
step i = record { production = i.production; at = i.at + 1; look = i.look }

-- the items with the symbol s after their dots, with their dots after it
pub record Shifted (g : Grammar) (items : List Item) (s : Symbol) (kernel : List Item) : Type 0 where
  pub each : (i : Item) → Contains kernel i → (j : Item) × Contains items j × (first (after_dot g j) ≡ Some s) × (step j ≡ i)
  pub all : (j : Item) → Contains items j → first (after_dot g j) ≡ Some s → Contains kernel (step j)

-- of the items before a place of the list, those with the symbol `s` after their dots, with their dots after it, in order
pub record ShiftsUpTo (g : Grammar) (items : List Item) (at : ℕ) (s : Symbol) (kernel : List Item) : Type 0 where
  pub rising : IsRising kernel
  pub each : (i : Item) → Contains kernel i
      → (k : ℕ) × (k < at) × (k < length items) × (first (after_dot g (slice_index_or items k i)) ≡ Some s)
      × (step (slice_index_or items k i) ≡ i)
  pub all : (k : ℕ) (d : Item) → k < at → first (after_dot g (slice_index_or items k d)) ≡ Some s
      → Contains kernel (step (slice_index_or items k d))

-- these are, in order, the items of the set of each prefix with this kernel
pub record IsSetOf (g : Shape) (kernel items : List Item) : Type 0 where
  pub known : All (IsItem g) items
  pub rising : IsRising items
  pub set : (prefix : List Symbol) → HasKernel g.grammar kernel prefix → HasSet g.grammar items prefix

-- the kernel of each prefix whose set these items are, with the symbol s after it
pub record IsKernelAfter (g : Shape) (items : List Item) (s : Symbol) (kernel : List Item) : Type 0 where
  pub ordered : IsOrdered g kernel
  pub leads : (prefix : List Symbol) → HasSet g.grammar items prefix → HasKernel g.grammar kernel (prefix ++ s ∷ [])
