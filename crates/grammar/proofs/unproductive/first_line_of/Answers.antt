use Rattle.grammar.proofs.Std.{refl, sym, take, drop, ◌+◌, arith, common_steps}
use Rattle.grammar.proofs.Common.{lines_view, statement_of, said_split}
use Rattle.grammar.proofs.unproductive.first_line_of.Goals as goal

pub returns-then-is_production_of : goal.returns-then-is_production_of
returns-then-is_production_of c =
    let i = c.loop-statement.statement-index in
    let ns = c.args.statements.now in (
      lines_view (take i ns),
      lines_view (drop (i + 1) ns),
      (
        statement_of c.statement-item.result,
        said_split ns i c.statement-item.result c.loop-statement-test.true c.statement-item.is,
        refl,
        c.loop-statement.invariant,
        sym c.if-is_production_of.ensures,
      ),
    )

pub loop-statement-preserved : goal.loop-statement-preserved
loop-statement-preserved c = grind (arith, common_steps)
