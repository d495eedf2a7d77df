use Rattle.parser.proofs.Std.{◌≡◌, length}
use Rattle.parser.proofs.Common.{all_kinds, AreBelow, backwards, plain_of}
use Rattle.parser.proofs.input.Input.second_kind.Given as goal

-- only trees of no kinds were passed
abbrev pub invariant-empty : goal.invariant-empty
invariant-empty l = AreBelow (length l.store) (backwards l.after) × (all_kinds (plain_of l.store (backwards l.after)) ≡ all_kinds (plain_of l.store (backwards l.initial.after)))
