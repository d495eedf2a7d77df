-- The tokens of a text: longest match, of equal lengths the earlier rule.
-- A rule is an expression, at its number in a list.
use Rattle.std.specs.Prelude.{◌≡◌, ℕ, ◌+◌, ◌≤◌, ◌⊎◌, not, false, Bool, List, [], ◌∷◌, length, take, drop, map, filter, slice_get}
use Rattle.std.specs.Prelude.{slice_index_or, IsSomeAnd}
use Rattle.definitions.specs.declared.Kind.{Kind}
use Rattle.definitions.specs.declared.Kind.TheVariants.{Rule, Invalid}
use Rattle.definitions.specs.declared.expression.Expression.{Expression}
use Rattle.definitions.specs.Patterns.{Matches, IsPrefix}

-- `t` is a text of rule `k`
abbrev pub RuleMatches : List Expression → ℕ → List ℕ → Type 0
RuleMatches rules k t = IsSomeAnd (slice_get rules k) (λ rule. Matches rule t)

-- `t` is a prefix of some text of some rule
abbrev pub IsRulePrefix : List Expression → List ℕ → Type 0
IsRulePrefix rules t = (k : ℕ) × IsSomeAnd (slice_get rules k) (λ rule. IsPrefix rule t)

-- the first `n` characters of `t`, at least one, are a text of rule `k`, no rule has a longer one there, and no earlier rule has this one
pub record IsLongest (rules : List Expression) (t : List ℕ) (k n : ℕ) : Type 0 where
  pub nonempty : 1 ≤ n
  pub inside : n ≤ length t
  pub matches : RuleMatches rules k (take n t)
  pub longest : (j m : ℕ) → m ≤ length t → RuleMatches rules j (take m t) → m ≤ n
  pub earliest : (j : ℕ) → RuleMatches rules j (take n t) → k ≤ j

-- no nonempty prefix of `t` is a text of a rule
abbrev pub IsUnmatched : List Expression → List ℕ → Type 0
IsUnmatched rules t = (j m : ℕ) → 1 ≤ m → m ≤ length t → ¬ RuleMatches rules j (take m t)

-- `IsPiece rules t kind n`: the first token of `t` has this kind and length: the longest match, or one invalid character where nothing
-- matches
abbrev pub IsPiece : List Expression → List ℕ → Kind → ℕ → Type 0
IsPiece rules t (Rule k) n = IsLongest rules t k n
IsPiece rules t Invalid n = (n ≡ 1) × (n ≤ length t) × IsUnmatched rules t

-- `t` has at least `n` characters, `n` is at least 1, and no text of a rule begins with the first `n`
pub record IsDead (rules : List Expression) (t : List ℕ) (n : ℕ) : Type 0 where
  pub nonempty : 1 ≤ n
  pub inside : n ≤ length t
  pub no_prefix : ¬ IsRulePrefix rules (take n t)

-- `n` is the least number with `IsDead`, or the length of `t` and one where there is none: so many characters decide the first token, the
-- end of the text counting as one
abbrev pub IsReach : List Expression → List ℕ → ℕ → Type 0
IsReach rules t n =
    IsDead rules t n × ((m : ℕ) → IsDead rules t m → n ≤ m)
    ⊎ (n ≡ length t + 1) × ((m : ℕ) → ¬ IsDead rules t m)

-- a kind, a length and a reach
pub record Token : Type 0 where
  pub kind : Kind
  pub length : ℕ
  pub reach : ℕ

-- `IsToken rules t x`: `x` is the first token of `t`
pub record IsToken (rules : List Expression) (t : List ℕ) (token : Token) : Type 0 where
  pub piece : IsPiece rules t token.kind token.length
  pub reach : IsReach rules t token.reach

-- `AreTokens rules t xs`: these are the tokens of `t`: each is the first one of what the ones before it leave, and together they leave
-- nothing
abbrev pub AreTokens : List Expression → List ℕ → List Token → Type 0
AreTokens rules t [] = t ≡ []
AreTokens rules t (x ∷ xs) = IsToken rules t x × AreTokens rules (drop x.length t) xs

-- `Leads rules t xs`: these are the first tokens of `t`, which they need not use up
abbrev pub Leads : List Expression → List ℕ → List Token → Type 0
Leads rules t [] = Unit {0}
Leads rules t (x ∷ xs) = IsToken rules t x × Leads rules (drop x.length t) xs

-- a token with the offset at which it starts
pub record Placed : Type 0 where
  pub start : ℕ
  pub token : Token

-- `placed o xs`: the tokens with their starts, where the first one starts at `o`
abbrev pub placed : ℕ → List Token → List Placed
placed o [] = []
placed o (x ∷ xs) = record { start = o; token = x } ∷ placed (o + x.length) xs

-- `boundaries o xs`: the starts of the tokens and the end of the last one, where the first one starts at `o`
abbrev pub boundaries : ℕ → List Token → List ℕ
boundaries o [] = o ∷ []
boundaries o (x ∷ xs) = o ∷ boundaries (o + x.length) xs

-- `is_skipped skips k`: whether a token of kind `k` is skipped. An invalid one isn't
abbrev pub is_skipped : List Bool → Kind → Bool
is_skipped skips (Rule k) = slice_index_or skips k false
is_skipped skips Invalid = false

-- `significant skips xs`: the placed tokens that aren't skipped
abbrev pub significant : List Bool → List Placed → List Placed
significant skips tokens = filter (λ x. not (is_skipped skips x.token.kind)) tokens

-- `kinds skips xs`: the kinds of the tokens that aren't skipped
abbrev pub kinds : List Bool → List Token → List Kind
kinds skips tokens = filter (λ k. not (is_skipped skips k)) (map (λ x. x.kind) tokens)
