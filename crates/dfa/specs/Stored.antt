-- How an automaton is stored.
use Rattle.std.specs.Prelude.{◌≡◌, ℕ, ◌*◌, ◌<◌, List, length, slice_index_or, Option, None}
use Rattle.dfa.specs.Table.{Table, IsTable, part, width}
use Rattle.dfa.specs.declared.automaton.State.{State}

abbrev pub table_of : List ℕ → List ℕ → List (Option ℕ) → Table
table_of starts next accepts = record { starts = starts; next = next; accepts = accepts }

-- the table's numbers are in range, and the parts of the first 128 characters are kept beside it
pub record IsStored (starts ascii next : List ℕ) (accepts : List (Option ℕ)) : Type 0 where
  pub table : IsTable (table_of starts next accepts)
  pub full : length ascii ≡ 128
  pub parts : (c : ℕ) → c < 128 → slice_index_or ascii c 0 ≡ part starts c

-- a state of the table, with the place of its row and its rule
pub record IsState (table : Table) (s : State) : Type 0 where
  pub inside : s.number < length table.accepts
  pub row : s.row ≡ s.number * width table
  pub rule : s.rule ≡ slice_index_or table.accepts s.number None

-- a row, and the parts of the first 128 characters
pub record AsciiRow : Type 0 where
  pub ascii : List ℕ
  pub entries : List ℕ

-- the entry for a character in ASCII
abbrev pub ascii_entry : AsciiRow → ℕ → ℕ
ascii_entry row c = slice_index_or row.entries (slice_index_or row.ascii c 0) 0

-- there is one for each such character
pub record IsAsciiRow (row : AsciiRow) : Type 0 where
  pub full : length row.ascii ≡ 128
  pub wide : (c : ℕ) → c < 128 → slice_index_or row.ascii c 0 < length row.entries
