-- The states of the LR(1) machine after the kinds that it has read.
use Rattle.std.specs.Prelude.{ℕ, List, [], Some}
use Rattle.definitions.specs.declared.Kind.{Kind}
use Rattle.definitions.specs.Trees.{Tree}
use Rattle.parser.specs.Machine.{HasStates}
use Rattle.tables.specs.Tables.{Sets}
use Rattle.theory.specs.Machine.{IsStackAfter, Run}

-- the machine has just read the last of the kinds `x`, and these are the states of its stack
pub record AreStatesAfter (t : Sets) (x : List Kind) (states : List ℕ) : Type 0 where
  pub stack : List Tree
  pub after : IsStackAfter t.grammar x stack
  pub has : HasStates t stack states

-- the machine has read the kinds `x`, and reduces on the next kind `k`; these are the states of its stack
pub record AreStatesOn (t : Sets) (x : List Kind) (k : Kind) (states : List ℕ) : Type 0 where
  pub shifted : List Tree
  pub after : IsStackAfter t.grammar x shifted
  pub stack : List Tree
  pub run : Run t.grammar (Some k) shifted [] stack
  pub has : HasStates t stack states

-- what callers see of a pile: its tables, and the states below and above its trees
pub record Standing : Type 0 where
  pub tables : Sets
  pub states : List ℕ
