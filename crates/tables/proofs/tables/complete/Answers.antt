use Rattle.std.proofs.Common.{arith}
use Rattle.tables.proofs.SetCount.{more_sets}
use Rattle.tables.proofs.Finishing.{conflict_right, few_sets}
use Rattle.tables.proofs.tables.complete.Goals as goal

pub returns-then-len-gt-MOST_SETS-clause-refused : goal.returns-then-len-gt-MOST_SETS-clause-refused
returns-then-len-gt-MOST_SETS-clause-refused c =
    let n = c.len-in-loop-states-2.ensures in
    let more = c.if-len-gt-MOST_SETS.true in
    more_sets c.args.grammar.now c.loop-states.states c.loop-states.invariant.states 8192 (omega (arith, n, more))

pub returns-in-Some-clause-refused : goal.returns-in-Some-clause-refused
returns-in-Some-clause-refused c =
    let g = c.args.grammar.now in
    let i = c.loop-states.invariant in
    let few = few_sets g c.loop-states.states i.states c.loop-states.made i.made (omega (arith, c.len.ensures, c.len-in-loop-states.ensures, c.loop-states-test.false, i.made.within)) 8192 i.few in
    conflict_right g.grammar 8192 few c.conflict_fault.result c.conflict_fault.ensures

pub returns-clause-few : goal.returns-clause-few
returns-clause-few c =
    let i = c.loop-states.invariant in
    few_sets c.args.grammar.now c.loop-states.states i.states c.loop-states.made i.made
    (omega (arith, c.len.ensures, c.len-in-loop-states.ensures, c.loop-states-test.false, i.made.within)) 8192 i.few
