use Rattle.parser.proofs.Std.{◌≡◌, ◌+◌, ◌-◌, ◌^◌, length, take}
use Rattle.parser.proofs.Common.{all_trees, input_of, CameFrom, SoFar}
use Rattle.parser.proofs.machine.Machine.run.Given as goal

abbrev pub invariant-moves : goal.invariant-moves
invariant-moves g l = record {
  so_far : SoFar l.tables (input_of l.fn.store l.fn.input l.fn.kinds 0) l.fn.kinds (length l.fn.store) l.number l.store l.self.stack.items l.self.states.items l.self.read l.input;
  came : CameFrom (all_trees l.fn.store l.fn.input) (length l.fn.store) l.number l.store l.self.stack.items l.self.read l.input;
  same : l.kinds ≡ l.fn.kinds;
  grown : take (length l.fn.store) l.store ≡ l.fn.store;
}

abbrev pub decreases-moves : goal.decreases-moves
decreases-moves g l = (length l.fn.kinds - l.self.read) + (2 ^ 64 - length l.store)
