-- Where faults stand in a text.
use Rattle.std.specs.Prelude.{◌≡◌, ℕ, ◌+◌, ◌-◌, ◌≤◌, List, All, length, drop, map, slice_get, take}
use Rattle.definitions.specs.declared.Range.{Range}
use Rattle.definitions.specs.declared.Unit.{Unit as Encoding}
use Rattle.definitions.specs.Answers.{fault_span, range_of}
use Rattle.definitions.specs.Tokens.{Placed}
use Rattle.mending.specs.declared.repair.Repair.{Repair}
use Rattle.faults.specs.declared.later.FaultBehind.{FaultBehind}

-- the range lies in the text: two of its offsets, in ascending order, have these positions
pub record IsInText (encoding : Encoding) (t : List ℕ) (range : Range) : Type 0 where
  pub from : ℕ
  pub to : ℕ
  pub ordered : from ≤ to
  pub within : to ≤ length t
  pub is : range ≡ range_of encoding t (from, to)

-- the number of the significant token of the text at which a repair's fault is: as many behind the first one that it changes as the copy
-- has kinds between
abbrev pub fault_number : Repair → ℕ
fault_number r = r.from + (r.fault - r.at)

-- the offsets of the significant token at which a repair's fault is, of all of these; where there is none, the end of the text twice
abbrev pub span_of_fault : List ℕ → List Placed → Repair → ℕ × ℕ
span_of_fault t tokens r = fault_span t (slice_get tokens (fault_number r))

-- the ranges of the faults that are told behind the first one: of all repairs but the first, of nineteen at most
abbrev pub ranges_behind : Encoding → List ℕ → List Placed → List Repair → List Range
ranges_behind encoding t tokens repairs = map (λ r. range_of encoding t (span_of_fault t tokens r)) (take 19 (drop 1 repairs))

-- each of the faults lies in the text, and so does what is said of the one before it
abbrev pub AreInText : Encoding → List ℕ → List FaultBehind → Type 0
AreInText encoding t faults = All (λ fault. IsInText encoding t fault.range × IsInText encoding t fault.condition.range) faults
