-- The longest match among the characters that were read.
use Rattle.std.specs.Prelude.{◌≡◌, ℕ, ◌<◌, ◌≤◌, min, List, length, take, Option, Some, None}
use Rattle.definitions.specs.declared.expression.Expression.{Expression}
use Rattle.definitions.specs.Tokens.{RuleMatches}
use Rattle.dfa.specs.Table.{IsFirst}

-- `IsBest rules t n rule len`: of the nonempty prefixes of `t` with at most `n` characters, the longest that a rule has, with the first
-- rule that has it
abbrev pub IsBest : List Expression → List ℕ → ℕ → Option ℕ → ℕ → Type 0
IsBest rules t n None len = (len ≡ min (length t) 1) × ((j m : ℕ) → 1 ≤ m → m ≤ n → ¬ RuleMatches rules j (take m t))
IsBest rules t n (Some k) len = (1 ≤ len) × (len ≤ n) × IsFirst rules (take len t) (Some k)
    × ((j m : ℕ) → len < m → m ≤ n → ¬ RuleMatches rules j (take m t))

-- after `read` characters of `t`: the best match of some fewer, and the rule of each longer prefix
pub record IsNoted (rules : List Expression) (t : List ℕ) (read : ℕ) (since : Option ℕ) (rule : Option ℕ) (len : ℕ) : Type 0 where
  pub noted : ℕ
  pub before : noted ≤ read
  pub fewer : 0 < read → noted < read
  pub best : IsBest rules t noted rule len
  pub first : (m : ℕ) → noted < m → m ≤ read → IsFirst rules (take m t) since
