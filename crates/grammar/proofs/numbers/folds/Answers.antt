use Rattle.grammar.proofs.Std.{◌∙◌, ap, arith, map, common_steps}
use Rattle.grammar.proofs.Common.{is_fold, texts, lines_view}
use Rattle.std.proofs.Common.{take_all}
use Rattle.grammar.proofs.numbers.folds.Goals as goal

pub returns : goal.returns
returns c =
    c.loop-name.invariant
    ∙ ap (λ ws. map (λ w. is_fold w (lines_view c.args.statements.now)) (texts ws)) (take_all c.loop-name.name-index c.as_slice-all.result.now (omega (arith, c.loop-name-test.false)))
    ∙ ap (map (λ w. is_fold w (lines_view c.args.statements.now))) c.as_slice-all.ensures

pub loop-name-preserved : goal.loop-name-preserved
loop-name-preserved c = grind (arith, common_steps)
