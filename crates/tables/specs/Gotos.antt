-- Where symbols lead from a state.
use Rattle.std.specs.Prelude.{◌≡◌, ◌<◌, ℕ, List, Option, None, length, slice_index_or}
use Rattle.definitions.specs.declared.Symbol.{Symbol}
use Rattle.definitions.specs.declared.Symbol.TheVariants.{Nonterminal}
use Rattle.item_sets.specs.declared.item.Item.{Item}
use Rattle.item_sets.specs.Collection.{IsStep}
use Rattle.productions.specs.Productions.{Shape, IsKnown}

-- where each nonterminal leads from the state s
pub record AreGotos (g : Shape) (kernels : List (List Item)) (s : ℕ) (gotos : List (Option ℕ)) : Type 0 where
  pub filled : length gotos ≡ g.nonterminals
  pub steps : (n : ℕ) → n < length gotos → IsStep g.grammar kernels s (Nonterminal n) (slice_index_or gotos n None)

-- each symbol leads to a state from it, or to no set
abbrev pub HasSteps : Shape → List (List Item) → ℕ → Type 0
HasSteps g kernels s = (x : Symbol) → IsKnown g x → (to : Option ℕ) × IsStep g.grammar kernels s x to
