use Rattle.grammar.proofs.Std.{◌≡◌, take, map, chars}
use Rattle.grammar.proofs.Common.{texts}
use Rattle.grammar.proofs.numbers.copy_names.Given as goal

abbrev pub invariant-loop-name : goal.invariant-loop-name
invariant-loop-name l = l.copies.items ≡ map chars (texts (take l.name-index l.names))
