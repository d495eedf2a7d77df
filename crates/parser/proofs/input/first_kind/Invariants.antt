use Rattle.parser.proofs.Std.{◌≡◌, List, ◌++◌, length}
use Rattle.parser.proofs.Common.{Kind, all_kinds, AreBelow, plain_of}
use Rattle.parser.proofs.input.first_kind.Given as goal

abbrev pub invariant-edge : goal.invariant-edge
invariant-edge l = AreBelow (length l.store) l.trees × ((more : List Kind) × (all_kinds (plain_of l.store l.fn.trees) ≡ all_kinds (plain_of l.store l.trees) ++ more))
