-- The order of the items of a set: the farther dot first, then the earlier production, then the earlier lookahead.
use Rattle.std.specs.Prelude.{◌≡◌, ◌<◌, ◌+◌, ◌⊎◌, ℕ, List, None, All, AllPairs}
use Rattle.item_sets.specs.declared.item.Item.{Item}
use Rattle.productions.specs.Lookaheads.{rank}
use Rattle.productions.specs.Productions.{Shape}
use Rattle.item_sets.specs.Sets.{IsItem}

-- the item `i` comes before `j`: its dot is farther; or its production is earlier; or its lookahead is
abbrev pub Below : Item → Item → Type 0
Below i j = (j.at < i.at)
    ⊎ ((i.at ≡ j.at) × ((rank i.production < rank j.production)
    ⊎ ((rank i.production ≡ rank j.production) × (rank i.look < rank j.look))))

-- the items are in order: the farther dot first, then the earlier production, then the earlier lookahead
abbrev pub IsRising : List Item → Type 0
IsRising items = AllPairs Below items

-- the closure doesn't add the item: its production is `S' = S`, or its dot is after a symbol
abbrev pub IsInside : Item → Type 0
IsInside i = (i.production ≡ None) ⊎ (0 < i.at)

-- the item stands before production p's beginning with the lookahead of column k
abbrev pub IsBefore : ℕ → ℕ → Item → Type 0
IsBefore p k i = IsInside i ⊎ ((i.at ≡ 0) × ((rank i.production < p + 1) ⊎ ((rank i.production ≡ p + 1) × (rank i.look < k))))

-- the items are in range, in order, and none is one that the closure adds
pub record IsOrdered (g : Shape) (kernel : List Item) : Type 0 where
  pub known : All (IsItem g) kernel
  pub inside : All IsInside kernel
  pub rising : IsRising kernel
