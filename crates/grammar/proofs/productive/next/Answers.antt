use Rattle.std.proofs.Common.{sym}
use Rattle.grammar.proofs.NonterminalMarks.{closed_more}
use Rattle.grammar.proofs.productive.next.Goals as goal

pub loop-production-preserved : goal.loop-production-preserved
loop-production-preserved c = closed_more c.args.productions.now c.args.marks.now c.loop-production.production-index c.production-item.result
    c.loop-production-test.true c.production-item.is c.loop-production.invariant (sym c.if-is_ready.ensures)
