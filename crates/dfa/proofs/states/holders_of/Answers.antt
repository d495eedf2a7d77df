use Rattle.dfa.proofs.Std.{◌+◌, drop, refl, arith}
use Rattle.dfa.proofs.Common.{all_holders, all_positions, holders}
use Rattle.dfa.proofs.Loops.{all_done, at_element, positions_more, positions_within, rule_more}
use Rattle.dfa.proofs.states.holders_of.Goals as goal

pub holders-requires : goal.holders-requires
holders-requires c =
    let rules = c.args.patterns.now in
    let i = c.loop-pattern.pattern-index in
    let e = c.expression.result.now in
    let here = at_element rules i c.pattern-item.result e c.expression.ensures.value c.loop-pattern-test.true c.pattern-item.is in
    let within = positions_within e (drop i rules) (drop (i + 1) rules) c.loop-pattern.at (all_positions rules) here c.loop-pattern.invariant.many in
    omega arith

pub loop-pattern-preserved : goal.loop-pattern-preserved
loop-pattern-preserved c =
    let rules = c.args.patterns.now in
    let i = c.loop-pattern.pattern-index in
    let e = c.expression.result.now in
    let at = c.loop-pattern.at in
    let here = at_element rules i c.pattern-item.result e c.expression.ensures.value c.loop-pattern-test.true c.pattern-item.is in
    record {
      many = positions_more e (drop i rules) (drop (i + 1) rules) at c.holders.new.at (all_positions rules) here c.in_ok-holders.ensures.past c.loop-pattern.invariant.many;
      holders = rule_more (all_holders c.args.c) e (drop i rules) (drop (i + 1) rules) at c.holders.new.at c.loop-pattern.places.items (holders c.args.c at e) c.holders.new.out.items
          (all_holders c.args.c 0 rules) here refl c.in_ok-holders.ensures.past c.in_ok-holders.ensures.holders c.loop-pattern.invariant.holders;
    }

pub returns : goal.returns
returns c =
    all_done (all_holders c.args.c c.loop-pattern.at) c.args.patterns.now c.loop-pattern.pattern-index c.loop-pattern.places.items
    (all_holders c.args.c 0 c.args.patterns.now) refl c.loop-pattern-test.false c.loop-pattern.invariant.holders
