use Rattle.parser.proofs.Std.{◌≡◌, ◌++◌, ◌-◌, length, drop, map}
use Rattle.parser.proofs.Common.{Token}
use Rattle.parser.proofs.prepare.put_kinds.Given as goal

abbrev pub invariant-kinds : goal.invariant-kinds
invariant-kinds l = l.trees ≡ map Token (drop (length l.kinds - l.i) l.kinds) ++ l.initial.trees
