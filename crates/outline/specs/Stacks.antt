-- The states of a parser's stack.
use Rattle.std.specs.Prelude.{ℕ, ◌<◌, List, All, length}
use Rattle.tables.specs.Tables.{Sets}

-- the tables have these states
abbrev pub AreStates : Sets → List ℕ → Type 0
AreStates t states = All (λ s. s < length t.moves) states
