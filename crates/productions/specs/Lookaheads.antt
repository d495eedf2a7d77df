-- Lookaheads in order: the end, then the token rules.
use Rattle.std.specs.Prelude.{◌+◌, ◌-◌, ◌==◌, if◌then◌else◌, ℕ, Option, Some, None}

-- the lookahead of a column: the end, then the token rules
abbrev pub lookahead_at : ℕ → Option ℕ
lookahead_at k = if k == 0 then None else Some (k - 1)

-- `rank look`: the column of a lookahead
abbrev pub rank : Option ℕ → ℕ
rank None = 0
rank (Some n) = n + 1
