-- What tables settle for every prefix at once.
use Rattle.std.specs.Prelude.{◌⊎◌, List, Option}
use Rattle.definitions.specs.declared.Kind.{Kind}
use Rattle.definitions.specs.declared.Symbol.{Symbol}
use Rattle.definitions.specs.Trees.{Grammar}
use Rattle.definitions.specs.Items.{Move, HasMove, HasItem}

-- of each prefix with an item it is known which move its items call for, or that they call for none
abbrev pub AreMovesDecided : Grammar → Type 0
AreMovesDecided g = (prefix : List Symbol) → HasItem g prefix → (look : Option Kind)
    → ((move : Move) × HasMove g prefix look move) ⊎ ((move : Move) → HasMove g prefix look move → ⊥)
