use Rattle.grammar.proofs.Std.{◌≡◌, take, map}
use Rattle.grammar.proofs.Common.{is_fold, texts, lines_view}
use Rattle.grammar.proofs.numbers.folds.Given as goal

abbrev pub invariant-loop-name : goal.invariant-loop-name
invariant-loop-name l = l.folds.items ≡ map (λ w. is_fold w (lines_view l.statements)) (texts (take l.name-index l.all))
