use Rattle.std.proofs.Common.{List}
use Rattle.definitions.specs.declared.Symbol.{Symbol}
use Rattle.tables.specs.Tables.{IsStateOf}
use Rattle.outline.specs.Stacks.{AreStates}
use Rattle.outline.proofs.open.states_of.Given as goal

abbrev pub invariant-loop-symbol : goal.invariant-loop-symbol
invariant-loop-symbol l = record {
  states : AreStates l.tables l.states.items;
  last : (prefix : List Symbol) × IsStateOf l.tables prefix l.state;
}
