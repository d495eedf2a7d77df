-- A mended copy of kinds.
use Rattle.std.specs.Prelude.{◌≡◌, ℕ, ◌+◌, ◌≤◌, ◌⊎◌, List, [], ◌∷◌, ◌++◌, length, take, drop}
use Rattle.definitions.specs.declared.Kind.{Kind}
use Rattle.definitions.specs.Sentences.{FaultAt, FaultAtEnd, IsVerdict}
use Rattle.definitions.specs.Trees.{Grammar}
use Rattle.parser.specs.Parses.{IsParseOf}
use Rattle.tables.specs.Expected.{AreExpected}
use Rattle.tables.specs.Tables.{Sets}
use Rattle.mending.specs.declared.mending.Mending.{Mending}
use Rattle.mending.specs.declared.repair.Repair.{Repair}
use Rattle.remedies.specs.Changes.{changed, passed}

-- `repaired r copy`: the copy after a repair
abbrev pub repaired : Repair → List Kind → List Kind
repaired r copy = take r.at copy ++ changed r.changes.items (drop r.at copy)

-- `IsFirstFault g kinds k`: the verdict on the kinds is a fault at number `k`, the end being numbered too
abbrev pub IsFirstFault : Grammar → List Kind → ℕ → Type 0
IsFirstFault g kinds k = IsVerdict g kinds (FaultAt k) ⊎ ((k ≡ length kinds) × IsVerdict g kinds FaultAtEnd)

-- `IsRepairOf g kinds copy r`: the repair stands at the first fault of a copy of the kinds, which lies in what it passes or right behind,
-- and has what could have stood there; from where it begins on, the copy is the kinds from number `from` on
pub record IsRepairOf (g : Grammar) (kinds copy : List Kind) (r : Repair) : Type 0 where
  pub first : IsFirstFault g copy r.fault
  pub expected : AreExpected g (take r.fault copy) r.expected.items
  pub begins : r.at ≤ r.fault
  pub ends : r.fault ≤ r.at + passed r.changes.items
  pub unchanged : drop r.at copy ≡ drop r.from kinds

-- `IsMended g kinds repairs copy`: the repairs, in order, make the copy of the kinds, each of what those before it have made
pub data IsMended (g : Grammar) (kinds : List Kind) : List Repair → List Kind → Type 0 where
  With_none : IsMended g kinds [] kinds
  With_more : (repairs : List Repair) (copy : List Kind) (r : Repair) → IsMended g kinds repairs copy → IsRepairOf g kinds copy r
      → IsMended g kinds (repairs ++ (r ∷ [])) (repaired r copy)

-- the parse of a mended copy is that of its kinds
abbrev pub HasParse : Sets → Mending → Type 0
HasParse t m = IsParseOf t m.copy.items m.store m.parse

-- `IsMendingOf t kinds m`: what mends the kinds: it has these, its copy is what its repairs make of them, and its parse is that of the copy
pub record IsMendingOf (t : Sets) (kinds : List Kind) (m : Mending) : Type 0 where
  pub origin : m.origin.items ≡ kinds
  pub mended : IsMended t.grammar kinds m.repairs.items m.copy.items
  pub parse : HasParse t m
