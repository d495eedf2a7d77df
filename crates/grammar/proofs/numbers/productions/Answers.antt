use Rattle.grammar.proofs.Std.{◌∙◌, ◌++◌, [], ap, sym, take, map, arith, cons_option, common_steps}
use Rattle.grammar.proofs.Common.{productions, production_of, lines_view, productions_more}
use Rattle.grammar.proofs.numbers.productions.Goals as goal

pub loop-statement-preserved : goal.loop-statement-preserved
loop-statement-preserved c =
    c.in_ok-push.ensures
    ∙ ap (λ xs. xs ++ cons_option c.in_ok-production.production []) c.loop-statement.invariant
    ∙ ap (λ o. map (production_of c.args.names.now.nonterminals (map (λ r. r.name) c.args.names.now.rules))
    (productions (lines_view (take c.loop-statement.statement-index c.args.statements.now))) ++ cons_option o []) c.in_ok-production.ensures
    ∙ sym (productions_more (production_of c.args.names.now.nonterminals (map (λ r. r.name) c.args.names.now.rules)) c.args.statements.now
    c.loop-statement.statement-index c.statement-item.result c.loop-statement-test.true c.statement-item.is)

pub returns : goal.returns
returns c = grind (arith, common_steps)
