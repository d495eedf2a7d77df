use Rattle.dfa.proofs.Std.{◌∙◌, ap, arith, length, sym}
use Rattle.dfa.proofs.Common.{members, all_positions, mark, all_counts}
use Rattle.dfa.proofs.AddedRow.{rules_are, rows_none}
use Rattle.dfa.proofs.MarkedSets.{length-unmarked, no_mark}
use Rattle.dfa.proofs.Trees.{trees_count}
use Rattle.dfa.proofs.build.states_of.Goals as goal

pub trees_of-requires : goal.trees_of-requires
trees_of-requires c =
    let many = ap length c.in_ok-marks.ensures.blank ∙ length-unmarked (all_positions c.args.patterns.now) in
    omega (arith, many)

pub part_holders-requires : goal.part_holders-requires
part_holders-requires c =
    let many = ap length c.in_ok-marks.ensures.blank ∙ length-unmarked (all_positions c.args.patterns.now) in
    omega (arith, many)

pub add_rows-requires : goal.add_rows-requires
add_rows-requires c =
    let many = ap length c.in_ok-marks.ensures.blank ∙ length-unmarked (all_positions c.args.patterns.now) in
    let counts = trees_count c.args.patterns.now c.in_ok-trees.trees.items c.in_ok-trees.ensures in
    record {
      rules = (
        c.args.patterns.now,
        c.args.starts.now,
        rules_are c.args.patterns.now c.args.starts.now c.in_ok-trees.trees.items c.deref.result.now c.in_ok-parts.parts.items c.deref-2.result.now c.deref.ensures.value
            c.deref-2.ensures.value c.in_ok-trees.ensures c.in_ok-parts.ensures.length c.in_ok-parts.ensures.each c.requires.ascending c.requires.cuts c.requires.characters,
        rows_none c.args.patterns.now c.args.starts.now (members c.in_ok-states.states.sets.keys) c.in_ok-states.states.next.items c.in_ok-states.states.accepts.items
            (c.in_ok-states.ensures.states c.args.patterns.now) c.in_ok-states.ensures.sets c.in_ok-states.ensures.next c.in_ok-states.ensures.accepts,
      );
      blank = λ p. ap (λ l. mark l p) c.in_ok-marks.ensures.blank ∙ no_mark (all_positions c.args.patterns.now) p;
      all = many ∙ (sym counts ∙ ap all_counts (sym c.deref.ensures.value));
    }

pub returns-in-Ok-clause-rows : goal.returns-in-Ok-clause-rows
returns-in-Ok-clause-rows c =
    c.in-Ok.ensures.rows c.args.patterns.now c.args.starts.now
    (rules_are c.args.patterns.now c.args.starts.now c.in_ok-trees.trees.items c.deref.result.now c.in_ok-parts.parts.items c.deref-2.result.now c.deref.ensures.value
    c.deref-2.ensures.value c.in_ok-trees.ensures c.in_ok-parts.ensures.length c.in_ok-parts.ensures.each c.requires.ascending c.requires.cuts c.requires.characters)
    (rows_none c.args.patterns.now c.args.starts.now (members c.in_ok-states.states.sets.keys) c.in_ok-states.states.next.items c.in_ok-states.states.accepts.items
    (c.in_ok-states.ensures.states c.args.patterns.now) c.in_ok-states.ensures.sets c.in_ok-states.ensures.next c.in_ok-states.ensures.accepts)

pub returns-clause-many : goal.returns-clause-many
returns-clause-many c = λ e.
    c.in-Err.ensures.many e c.args.patterns.now c.args.starts.now
    (rules_are c.args.patterns.now c.args.starts.now c.in_ok-trees.trees.items c.deref.result.now c.in_ok-parts.parts.items c.deref-2.result.now c.deref.ensures.value
    c.deref-2.ensures.value c.in_ok-trees.ensures c.in_ok-parts.ensures.length c.in_ok-parts.ensures.each c.requires.ascending c.requires.cuts c.requires.characters)
    (rows_none c.args.patterns.now c.args.starts.now (members c.in_ok-states.states.sets.keys) c.in_ok-states.states.next.items c.in_ok-states.states.accepts.items
    (c.in_ok-states.ensures.states c.args.patterns.now) c.in_ok-states.ensures.sets c.in_ok-states.ensures.next c.in_ok-states.ensures.accepts)
