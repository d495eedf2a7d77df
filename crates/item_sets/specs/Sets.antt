-- Items, and the closure of a set of them.
use Rattle.std.specs.Prelude.{◌≡◌, ◌<◌, ◌≤◌, ℕ, List, [], ◌∷◌, Option, Some, None, length, take, drop, Contains, IfSome}
use Rattle.definitions.specs.declared.Symbol.{Symbol}
use Rattle.definitions.specs.declared.Symbol.TheVariants.{Nonterminal}
use Rattle.definitions.specs.Trees.{Grammar, left_of, right_of}
use Rattle.definitions.specs.Items.{Item as LrItem}
use Rattle.item_sets.specs.declared.item.Item.{Item}
use Rattle.productions.specs.Productions.{Shape}
use Rattle.theory.specs.First.{MayFollow}

-- `side g p`: the right side of production `p`, or of the added `S' = S`, which is `None`
abbrev pub side : Grammar → Option ℕ → List Symbol
side g None = Nonterminal g.start ∷ []
side g (Some p) = right_of g p

-- the symbols after an item's dot
abbrev pub after_dot : Grammar → Item → List Symbol
after_dot g i = drop i.at (side g i.production)

-- an item of the code as an `Item` of the definitions
abbrev pub item_of : Grammar → Item → LrItem
item_of g i = record { production = i.production; before = take i.at (side g i.production); after = after_dot g i; look = i.look }

-- the item's numbers are in range
pub record IsItem (g : Shape) (i : Item) : Type 0 where
  pub production : IfSome i.production (λ p. p < length g.grammar.productions)
  pub at : i.at ≤ length (side g.grammar i.production)
  pub look : IfSome i.look (λ a. a < g.grammar.rules)

-- `IsIn g kernel i`: the item is in the closure of the kernel, by `MayFollow`
pub data IsIn (g : Grammar) (kernel : List Item) : Item → Type 0 where
  Kernel : {i : Item} → Contains kernel i → IsIn g kernel i
  Closed : {i : Item} (n : ℕ) (rest : List Symbol) (p : ℕ) (a : Option ℕ) → IsIn g kernel i → after_dot g i ≡ Nonterminal n ∷ rest
      → p < length g.productions → left_of g p ≡ n → MayFollow g rest i.look a
      → IsIn g kernel (record { production = Some p; at = 0; look = a })
