-- What is reported of a conflict.
use Rattle.std.specs.Prelude.{◌≡◌, ◌≢◌, ◌<◌, ◌≤◌, ℕ, [], Option, Some, None, length}
use Rattle.definitions.specs.Trees.{Grammar}
use Rattle.definitions.specs.Items.{Item as LrItem, Move, CallsFor, kind_of, IsConflict}
use Rattle.tables.specs.declared.conflict.Conflict.{Conflict}
use Rattle.tables.specs.declared.decisions.Clash.{Clash}
use Rattle.item_sets.specs.Sets.{item_of, side}

-- `IsEarlier p q`: production `p` comes before `q`, the added `S' = S` before all
abbrev pub IsEarlier : Option ℕ → Option ℕ → Type 0
IsEarlier None (Some q) = Unit {0}
IsEarlier (Some p) (Some q) = p < q
IsEarlier None None = ⊥
IsEarlier (Some p) None = ⊥

-- the order in which a conflict's items are reported: the dot of the first is at its end; where both are, the first has the earlier
-- production
pub record IsInOrder (one two : LrItem) : Type 0 where
  pub at_end : one.after ≡ []
  pub earlier : two.after ≡ [] → IsEarlier one.production two.production

-- `Differ g clash`: the two items call for different moves at their lookahead
abbrev pub Differ : Grammar → Clash → Type 0
Differ g c = (m : Move) × (n : Move) × CallsFor (item_of g c.one) (kind_of c.look) m × CallsFor (item_of g c.two) (kind_of c.look) n
    × (m ≢ n)

-- `IsReport g conflict`: what is reported is a conflict: its items are valid for its prefix and call for different moves at its lookahead,
-- are in order, and each dot lies within its right side
pub record IsReport (g : Grammar) (c : Conflict) : Type 0 where
  pub conflict : IsConflict g c.prefix.items (kind_of c.look) (item_of g c.first) (item_of g c.second)
  pub order : IsInOrder (item_of g c.first) (item_of g c.second)
  pub first_dot : c.first.at ≤ length (side g c.first.production)
  pub second_dot : c.second.at ≤ length (side g c.second.production)
