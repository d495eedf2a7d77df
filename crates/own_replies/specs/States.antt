-- What the editor's server is between two messages, as plain data.
use Rattle.std.specs.Prelude.{ℕ, ◌+◌, min, List, Option, None}
use Rattle.readings.specs.Grammars.{FileGrammar}
use Rattle.sessions.specs.Steps.{State, first_state}
use Rattle.shown.specs.Shown.{ShownData}

-- the colours of a whole document that were sent last: its URI, the name of that result, and the numbers
pub record Told : Type 0 where
  pub uri : List ℕ
  pub name : List ℕ
  pub numbers : List ℕ

-- the core; what an editor is shown of its language besides; how many results with the colours of a whole document were sent, at most
-- 2^64 - 1; and the last of them
pub record IdeState : Type 0 where
  pub core : State
  pub shown : ShownData
  pub number : ℕ
  pub told : Option Told

-- one result more
abbrev pub next : ℕ → ℕ
next number = min (number + 1) 18_446_744_073_709_551_615

-- `first_of file shown`: no message has come yet
abbrev pub first_of : FileGrammar → ShownData → IdeState
first_of file shown = record { core = first_state file; shown = shown; number = 0; told = None }
