use Rattle.grammar.proofs.Std.{tests, ◌∙◌, sym, YieldsList-from_slice, any_from_yields_List}
use Rattle.grammar.proofs.Common.{folds_name, statement_of, list_any-map}
use Rattle.std.proofs.Common.{rules}
use Rattle.grammar.proofs.numbers.is_fold.Goals as goal

pub returns : goal.returns
returns c = any_from_yields_List _ _ _ c.any.result c.any.ensures.ran (YieldsList-from_slice c.args.statements.now (cc)) (λ x q k. search (rules, tests))
    ∙ sym (list_any-map (λ s. folds_name c.args.name.now s.says) statement_of c.args.statements.now)
