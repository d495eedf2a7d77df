-- A walk over tokens.
use Rattle.std.specs.Prelude.{◌≡◌, ℕ, ◌+◌, ◌-◌, ◌<◌, ◌≤◌, max, List, length, take, drop}
use Rattle.definitions.specs.declared.Edit.{Edit}
use Rattle.lexer.specs.declared.sums.Token.{Token}
use Rattle.lexer.specs.Tokens.{characters, Fits}

-- a place among tokens
pub record Spot : Type 0 where
  pub items : List Token
  pub place : ℕ

-- these tokens are ahead, and the next one starts at this offset
pub record IsWalk (items ahead : List Token) (place start : ℕ) : Type 0 where
  pub fits : Fits items
  pub within : place ≤ length items
  pub ahead_is : ahead ≡ drop place items
  pub start_is : start ≡ characters (take place items)

-- each token before the place starts before the offset
abbrev pub IsPassed : ℕ → Spot → Type 0
IsPassed offset spot = (j : ℕ) → j < spot.place → characters (take j spot.items) < offset

-- no old token is looked for before this offset once the new tokens have come to offset `at`
abbrev pub horizon : Edit → ℕ → ℕ
horizon e at = max (e.at + e.removed) (at - e.inserted + e.removed)
