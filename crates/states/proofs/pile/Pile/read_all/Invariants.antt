use Rattle.states.proofs.Std.{◌≡◌, ◌++◌, List, take}
use Rattle.states.proofs.Common.{AreStatesAfter, Kind}
use Rattle.states.proofs.pile.Pile.read_all.Given as goal

abbrev pub invariant-loop-kind : goal.invariant-loop-kind
invariant-loop-kind l = record {
  tables : l.self.tables ≡ l.fn.self.tables;
  after : (x : List Kind) → AreStatesAfter l.fn.self.tables x l.fn.self.states → AreStatesAfter l.fn.self.tables (x ++ take l.kind-index l.kinds) l.self.states;
}
