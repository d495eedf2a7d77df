use Rattle.states.proofs.Std.{◌≡◌, ◌⊎◌, ◌++◌, ◌∷◌, [], List}
use Rattle.states.proofs.Common.{AreStatesAfter, AreStatesOn, IsViable, Kind}
use Rattle.states.proofs.pile.Pile.read.Given as goal

abbrev pub invariant-loop : goal.invariant-loop
invariant-loop l = record {
  tables : l.self.tables ≡ l.fn.self.tables;
  on : (x : List Kind) → AreStatesAfter l.fn.self.tables x l.fn.self.states → AreStatesOn l.fn.self.tables x l.kind l.self.states;
  stays : (x : List Kind) → AreStatesAfter l.fn.self.tables x l.fn.self.states
      → (l.self.states ≡ l.fn.self.states) ⊎ IsViable l.fn.self.tables.grammar (x ++ l.kind ∷ []);
}
