-- What changes make of kinds.
use Rattle.std.specs.Prelude.{ℕ, ◌+◌, List, [], ◌∷◌}
use Rattle.definitions.specs.declared.Kind.{Kind}
use Rattle.definitions.specs.declared.Kind.TheVariants.{Rule}
use Rattle.remedies.specs.declared.change.Change.{Change}
use Rattle.remedies.specs.declared.change.Change.TheVariants.{Keep, LeaveOut, PutIn}

-- `changed changes kinds`: the kinds after changes from the first of them on. Where there is no kind, nothing is left out or kept
abbrev pub changed : List Change → List Kind → List Kind
changed [] kinds = kinds
changed (PutIn rule ∷ changes) kinds = Rule rule ∷ changed changes kinds
changed (LeaveOut ∷ changes) [] = changed changes []
changed (LeaveOut ∷ changes) (k ∷ kinds) = changed changes kinds
changed (Keep ∷ changes) [] = changed changes []
changed (Keep ∷ changes) (k ∷ kinds) = k ∷ changed changes kinds

-- how many kinds changes pass, which are left out or kept
abbrev pub passed : List Change → ℕ
passed [] = 0
passed (PutIn rule ∷ changes) = passed changes
passed (LeaveOut ∷ changes) = 1 + passed changes
passed (Keep ∷ changes) = 1 + passed changes
