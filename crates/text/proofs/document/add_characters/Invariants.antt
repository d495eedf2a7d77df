use Rattle.std.proofs.Common.{◌≡◌, ◌++◌}
use Rattle.text.proofs.document.add_characters.Given as goal

abbrev pub invariant-loop-c : goal.invariant-loop-c
invariant-loop-c l = l.characters.items ≡ l.initial.characters.items ++ l.yielded
