use Rattle.dfa.proofs.Std.{◌+◌, drop, ap}
use Rattle.dfa.proofs.Common.{all_cuts, cuts}
use Rattle.dfa.proofs.JoinedLists.{one_more}
use Rattle.dfa.proofs.Loops.{at_element}
use Rattle.dfa.proofs.alphabet.all_cuts.Goals as goal

pub loop-pattern-preserved : goal.loop-pattern-preserved
loop-pattern-preserved c =
    let rules = c.args.patterns.now in
    let i = c.loop-pattern.pattern-index in
    let e = c.expression.result.now in
    let here = at_element rules i c.pattern-item.result e c.expression.ensures.value c.loop-pattern-test.true c.pattern-item.is in
    record {
      cuts = one_more c.cuts.new.out.items c.loop-pattern.out.items (cuts e) (all_cuts (drop i rules)) (all_cuts (drop (i + 1) rules))
          (all_cuts rules) c.in_ok-cuts.ensures.cuts (ap all_cuts here) c.loop-pattern.invariant.cuts;
      characters = c.in_ok-cuts.ensures.characters c.loop-pattern.invariant.characters;
    }
