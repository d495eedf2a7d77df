-- What repairs make of the kinds before a place.
use Rattle.std.specs.Prelude.{◌≡◌, ◌-◌, List, [], ◌∷◌, ◌++◌, Some, drop, if◌then◌else◌, length, nat_lt, slice_get, take}
use Rattle.definitions.specs.declared.Kind.{Kind}
use Rattle.definitions.specs.declared.Kind.TheVariants.{Invalid, Rule}
use Rattle.definitions.specs.Sentences.{IsViable}
use Rattle.definitions.specs.Trees.{Grammar}
use Rattle.mending.specs.declared.repair.Repair.{Repair}
use Rattle.remedies.specs.declared.change.Change.{Change}
use Rattle.remedies.specs.declared.change.Change.TheVariants.{Keep, LeaveOut, PutIn}

-- `changed_before changes kinds`: the kinds after changes from the first of them on, up to the last of them: nothing is put in behind it
abbrev pub changed_before : List Change → List Kind → List Kind
changed_before [] kinds = kinds
changed_before (change ∷ changes) [] = []
changed_before (PutIn rule ∷ changes) (k ∷ kinds) = Rule rule ∷ changed_before changes (k ∷ kinds)
changed_before (LeaveOut ∷ changes) (k ∷ kinds) = changed_before changes kinds
changed_before (Keep ∷ changes) (k ∷ kinds) = k ∷ changed_before changes kinds

-- `repaired_before r kinds`: the kinds before a place after a repair of which they have the fault
abbrev pub repaired_before : Repair → List Kind → List Kind
repaired_before r kinds = take r.at kinds ++ changed_before r.changes.items (drop r.at kinds)

-- `mended_before repairs kinds`: the kinds before a place as the repairs of the faults mend them that stand among them, one after the
-- other; the first fault that doesn't, and all that is behind it, change nothing
abbrev pub mended_before : List Repair → List Kind → List Kind
mended_before [] kinds = kinds
mended_before (r ∷ repairs) kinds =
    if nat_lt r.fault (length kinds) then mended_before repairs (repaired_before r kinds) else kinds

-- the last of the kinds is that of what begins no token, as the quote of a string that isn't closed
abbrev pub EndsInvalid : List Kind → Type 0
EndsInvalid kinds = slice_get kinds (length kinds - 1) ≡ Some Invalid

-- `GoOnAs g repairs kinds others`: what stands before a place has these kinds, and what goes on there is what goes on behind the others:
-- they are these kinds, where some sentence begins with them, and otherwise what the repairs make of them; right behind what begins no
-- token, where no sentence begins with them, they stay, and nothing goes on
pub data GoOnAs (g : Grammar) (repairs : List Repair) (kinds others : List Kind) : Type 0 where
  As_they_are : IsViable g kinds → others ≡ kinds → GoOnAs g repairs kinds others
  As_mended : ¬ IsViable g kinds → ¬ EndsInvalid kinds → others ≡ mended_before repairs kinds → GoOnAs g repairs kinds others
  Not_at_all : ¬ IsViable g kinds → EndsInvalid kinds → others ≡ kinds → GoOnAs g repairs kinds others
