use Rattle.std.proofs.Common.{◌≡◌}
use Rattle.tables.proofs.ProductionsOfFile.{first_productions}
use Rattle.tables.proofs.tables.copy_productions.Given as goal

abbrev pub invariant-loop-p : goal.invariant-loop-p
invariant-loop-p l = l.productions ≡ first_productions l.grammar l.p
