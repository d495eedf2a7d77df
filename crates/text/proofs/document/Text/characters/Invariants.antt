use Rattle.text.proofs.Std.{◌≡◌, ◌++◌}
use Rattle.text.proofs.Common.{text_in}
use Rattle.text.proofs.document.Text.characters.Given as goal

abbrev pub invariant-loop-piece : goal.invariant-loop-piece
invariant-loop-piece l = l.characters.items ++ text_in l.piece-iterator ≡ l.self
