use Rattle.parser.proofs.Std.{◌≡◌}
use Rattle.parser.proofs.Common.{plain_of, input_of, IsInput, Offers, all_trees, ComeFrom}
use Rattle.parser.proofs.LeftEdge.{weight}
use Rattle.parser.proofs.Inputs.{IsOpening}
use Rattle.parser.proofs.machine.Machine.first_input.Given as goal

abbrev pub invariant-edge : goal.invariant-edge
invariant-edge g l = record {
  input : IsInput l.tables.grammar l.store l.input l.fn.kinds l.self.read;
  offers : Offers l.tables.grammar (plain_of l.store l.self.stack.items) (input_of l.store l.input l.fn.kinds l.self.read) (input_of l.store l.initial.input l.fn.kinds l.self.read);
  came : ComeFrom (all_trees l.store l.initial.input) 0 (all_trees l.store l.input);
  same : l.kinds ≡ l.fn.kinds;
  opening : IsOpening l.store l.initial.input l.input;
}

abbrev pub decreases-edge : goal.decreases-edge
decreases-edge g l = weight (plain_of l.store l.input)
