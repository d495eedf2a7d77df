-- What the table of an automaton means for a list of rules.
use Rattle.std.specs.Prelude.{◌≡◌, ℕ, zero, suc, ◌+◌, ◌*◌, ◌<◌, ◌≤◌, nat_le, List, [], ◌∷◌, length, slice_index_or, Option, Some, None}
use Rattle.std.specs.Prelude.{MatchOption}
use Rattle.std.specs.List.{prefix_len}
use Rattle.definitions.specs.declared.expression.Expression.{Expression}
use Rattle.definitions.specs.declared.Kind.{Kind}
use Rattle.definitions.specs.declared.Kind.TheVariants.{Rule, Invalid}
use Rattle.definitions.specs.Text.{IsCharacter, IsText}
use Rattle.definitions.specs.Tokens.{RuleMatches, IsRulePrefix}

-- an automaton as callers see it. The characters lie in parts, one below the first of `starts` and one from each of them on. `next` has a
-- row for each state with an entry for each part: the number of the next state, or 0 where there is none. `accepts` gives the rule of each
-- state
pub record Table : Type 0 where
  pub starts : List ℕ
  pub next : List ℕ
  pub accepts : List (Option ℕ)

-- the part of the alphabet in which a character lies
abbrev pub part : List ℕ → ℕ → ℕ
part starts c = prefix_len (λ x. nat_le x c) starts

-- no number of the list is below one before it
abbrev pub IsAscending : List ℕ → Type 0
IsAscending xs = (i j : ℕ) → i ≤ j → j < length xs → slice_index_or xs i 0 ≤ slice_index_or xs j 0

-- how many parts the alphabet has
abbrev pub width : Table → ℕ
width table = length table.starts + 1

-- `numbered s`: an entry of a row as a state: 0 is none, since no row leads to the first state
abbrev pub numbered : ℕ → Option ℕ
numbered zero = None
numbered (suc s) = Some (suc s)

-- the state after state `s` at the character `c`, if there is one
abbrev pub follower : Table → ℕ → ℕ → Option ℕ
follower table s c = numbered (slice_index_or table.next (s * width table + part table.starts c) 0)

-- the character leads from state `s` to itself
abbrev pub Stays : Table → ℕ → ℕ → Type 0
Stays table s c = IsCharacter c × (follower table s c ≡ Some s)

-- `next_state table s c`: the state after `s` at the character `c`, if there is one and `s` is one
abbrev pub next_state : Table → Option ℕ → ℕ → Option ℕ
next_state table None c = None
next_state table (Some s) c = follower table s c

-- `state_from table s u`: the state after the text `u` from `s` on, if there is one
abbrev pub state_from : Table → Option ℕ → List ℕ → Option ℕ
state_from table o [] = o
state_from table o (c ∷ u) = state_from table (next_state table o c) u

-- the state after a text, if there is one; state 0 is the first
unfoldable pub state_after : Table → List ℕ → Option ℕ
state_after table u = state_from table (Some 0) u

-- `IsFirst rules u k`: `k` is the first rule that has the text, or none where no rule has it
abbrev pub IsFirst : List Expression → List ℕ → Option ℕ → Type 0
IsFirst rules u None = (j : ℕ) → ¬ RuleMatches rules j u
IsFirst rules u (Some k) = RuleMatches rules k u × ((j : ℕ) → j < k → ¬ RuleMatches rules j u)

-- a nonempty text has a state exactly where it begins a text of a rule, and the state gives the first rule that has the text
pub record IsAutomaton (rules : List Expression) (table : Table) : Type 0 where
  pub shows : (u : List ℕ) → IsText u → 1 ≤ length u
      → MatchOption (state_after table u) (¬ IsRulePrefix rules u)
      (λ s. IsRulePrefix rules u × IsFirst rules u (slice_index_or table.accepts s None))

-- the numbers of a table are in range: 1 to 4,096 states, a full row of such for each, and ascending parts
pub record IsTable (table : Table) : Type 0 where
  pub begins : 0 < length table.accepts
  pub bound : length table.accepts ≤ 4096
  pub filled : length table.next ≡ length table.accepts * width table
  pub inside : (s k : ℕ) → s < length table.accepts → k < width table
      → slice_index_or table.next (s * width table + k) 0 < length table.accepts
  pub ordered : IsAscending table.starts

-- `kind_of rule`: a rule as a kind, or the invalid kind where there is none
abbrev pub kind_of : Option ℕ → Kind
kind_of None = Invalid
kind_of (Some k) = Rule k
