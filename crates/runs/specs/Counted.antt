-- What items add up to that are counted too.
use Rattle.std.specs.Prelude.{ℕ, ◌-◌, ◌^◌, List, length}
use Rattle.seqtree.specs.Monoid.{total}
use Rattle.seqtree.specs.Saturated.{saturated}
use Rattle.runs.specs.declared.counted.Counted.{Counted}

-- 2^64 - 1, the greatest number of items that is counted
abbrev pub most : ℕ
most = 2 ^ 64 - 1

-- `nothing zero`: the count and sum of no item
abbrev pub nothing : {S : Type 0} → S → Counted S
nothing zero = record { items = 0; sum = zero }

-- the count and sum of what has `a` and, after it, of what has `b`
abbrev pub join_three : {S : Type 0} → (S → S → S) → Counted S → Counted S → Counted S
join_three op a b = record { items = saturated most a.items b.items; sum = op a.sum b.sum }

-- `counted zero op measure items`: how many items there are, and their sum
abbrev pub counted : {A S : Type 0} → S → (S → S → S) → (A → S) → List A → Counted S
counted zero op measure items = record { items = length items; sum = total zero op measure items }
