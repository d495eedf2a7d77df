use Rattle.parser.proofs.Std.{[], ◌+◌, arith, drop, length, subst, sym, rules, common_steps}
use Rattle.parser.proofs.Common.{all_trees, input_of, IsInput, IsMadeByRun, AreOlder}
use Rattle.parser.proofs.WholeRun.{plain_count, plain_stamps}
use Rattle.parser.proofs.Running.{no_input}
use Rattle.parser.proofs.Stamping.{none_in_nothing}
use Rattle.parser.proofs.Stamps.{trees_stay}
use Rattle.parser.proofs.parse.Parse.whole.Goals as goal

-- the run over no trees, and over all kinds after them
made : (g : _) (c : goal.In-Ok g) → let kinds = g.K.Kinds.kinds c.args.kinds.now in
    IsMadeByRun c.args.tables.now (input_of c.args.store.now [] kinds 0) kinds (length c.args.store.now) 0 c.parse_from.new.store c.in-Ok.parse.stack
made g c =
    let kinds = g.K.Kinds.kinds c.args.kinds.now in
    subst (λ l. IsMadeByRun c.args.tables.now (input_of c.args.store.now l kinds 0) kinds (length c.args.store.now) 0 c.parse_from.new.store c.in-Ok.parse.stack) c.new.ensures c.in-Ok.ensures.run

pub parse_from-requires-clause-input : goal.parse_from-requires-clause-input
parse_from-requires-clause-input g c =
    let kinds = g.K.Kinds.kinds c.args.kinds.now in
    subst (λ l. IsInput c.args.tables.now.grammar c.args.store.now l kinds 0) (sym c.new.ensures) (no_input c.args.tables.now.grammar c.args.store.now kinds)

pub parse_from-requires-clause-older : goal.parse_from-requires-clause-older
parse_from-requires-clause-older g c = subst (λ l. AreOlder 0 (all_trees c.args.store.now l)) (sym c.new.ensures) (none_in_nothing 0)

pub returns-in-Ok-clause-stamps : goal.returns-in-Ok-clause-stamps
returns-in-Ok-clause-stamps g c =
    let kinds = g.K.Kinds.kinds c.args.kinds.now in
    plain_stamps c.args.tables.now (drop (0 + 0) kinds) kinds (length c.args.store.now) 0 c.parse_from.new.store c.in-Ok.parse.stack (made g c)

pub returns-in-Ok-clause-count : goal.returns-in-Ok-clause-count
returns-in-Ok-clause-count g c =
    let kinds = g.K.Kinds.kinds c.args.kinds.now in
    plain_count c.args.tables.now (drop (0 + 0) kinds) kinds (length c.args.store.now) 0 c.parse_from.new.store c.in-Ok.parse.stack (made g c)

pub returns-in-Ok-clause-built : goal.returns-in-Ok-clause-built
returns-in-Ok-clause-built g c =
    let count = returns-in-Ok-clause-count g c in
    omega (arith, c.in-Ok.ensures.count, count)

pub returns-in-Ok-clause-kept : goal.returns-in-Ok-clause-kept
returns-in-Ok-clause-kept g c = trees_stay c.args.store.now c.parse_from.new.store c.parse_from.ensures.grown

pub returns-in-Ok-clause-added : goal.returns-in-Ok-clause-added
returns-in-Ok-clause-added g c = c.in-Ok.ensures.came.2.added

pub returns-in-Ok-clause-number : goal.returns-in-Ok-clause-number
returns-in-Ok-clause-number g c = search rules

pub returns-in-Err-clause-grown : goal.returns-in-Err-clause-grown
returns-in-Err-clause-grown g c = grind (arith, common_steps)
