-- States of stacks.
use Rattle.std.specs.Prelude.{ℕ, List, All}
use Rattle.definitions.specs.declared.Symbol.{Symbol}
use Rattle.tables.specs.Tables.{IsStateOf, Sets}
use Rattle.states.specs.declared.stacks.Level.{Level}

-- some symbols lead to the state
abbrev pub IsReached : Sets → ℕ → Type 0
IsReached t state = (symbols : List Symbol) × IsStateOf t symbols state

-- some symbols lead to each of the states
abbrev pub AreReached : Sets → List Level → Type 0
AreReached t levels = All (λ level. IsReached t level.state) levels
