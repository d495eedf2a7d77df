-- Places up to which a copy and what is mended belong together.
use Rattle.std.specs.Prelude.{◌≡◌, ℕ, ◌≤◌, List, [], ◌∷◌, ◌++◌, Option, Some, None, drop, length, slice_get, slice_range, take}
use Rattle.definitions.specs.declared.Kind.{Kind}
use Rattle.definitions.specs.Sentences.{IsSentence, IsViable}
use Rattle.definitions.specs.Trees.{Grammar}
use Rattle.tables.specs.Expected.{AreExpected}
use Rattle.mending.specs.declared.seam.Seam.{Seam}

-- `IsWithin copy kinds seam`: the place is one of both lists
abbrev pub IsWithin : List Kind → List Kind → Seam → Type 0
IsWithin copy kinds seam = (seam.copy ≤ length copy) × (seam.kind ≤ length kinds)

-- `staged copy kinds seam`: the copy up to a place, and behind it the kinds as they are
abbrev pub staged : List Kind → List Kind → Seam → List Kind
staged copy kinds seam = take seam.copy copy ++ drop seam.kind kinds

-- `DoesNotFollow g x look`: after `x` no sentence goes on with the kind; or `x` is none, where there is no kind
abbrev pub DoesNotFollow : Grammar → List Kind → Option Kind → Type 0
DoesNotFollow g x (Some k) = ¬ IsViable g (x ++ (k ∷ []))
DoesNotFollow g x None = ¬ IsSentence g x

-- `before_fault copy kinds seam fault`: the copy up to a place, and the kinds from there up to number `fault`
abbrev pub before_fault : List Kind → List Kind → Seam → ℕ → List Kind
before_fault copy kinds seam fault = take seam.copy copy ++ slice_range kinds seam.kind fault

-- `IsFaultAt g copy kinds seam fault looks`: the copy up to a place and the kinds behind it go on up to kind number `fault`, or the end,
-- and not with it; what could have stood there is `looks`
pub record IsFaultAt (g : Grammar) (copy kinds : List Kind) (seam : Seam) (fault : ℕ) (looks : List (Option ℕ)) : Type 0 where
  pub ordered : seam.kind ≤ fault
  pub inside : fault ≤ length kinds
  pub expected : AreExpected g (before_fault copy kinds seam fault) looks
  pub viable : IsViable g (before_fault copy kinds seam fault)
  pub refused : DoesNotFollow g (before_fault copy kinds seam fault) (slice_get kinds fault)
