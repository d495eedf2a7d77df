use Rattle.grammar.proofs.Std.{refl, slice_get_read}
use Rattle.grammar.proofs.UsedMarks.{spread_more}
use Rattle.grammar.proofs.used.next.Goals as goal

pub returns-in-Some : goal.returns-in-Some
returns-in-Some c =
    let is = c.next_of.ensures.some c.in-Some.nonterminal c.in-Some.is in
    record {
      number = c.loop-production.production-index;
      production = c.production-item.result;
      there = slice_get_read c.args.productions.now _ c.loop-production.production-index c.production-item.result refl c.loop-production-test.true c.production-item.is;
      marked = is.0;
      on_right = is.1;
    }

pub loop-production-preserved : goal.loop-production-preserved
loop-production-preserved c =
    spread_more c.args.productions.now c.args.marks.now c.loop-production.production-index c.production-item.result c.loop-production-test.true
    c.production-item.is c.loop-production.invariant (c.next_of.ensures.none c.in_default.is)
