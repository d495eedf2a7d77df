use Rattle.parser.proofs.Std.{sym, subst, ap, arith, ◌∙◌, [], ◌∷◌, length}
use Rattle.parser.proofs.Common.{input_of, all_trees, all_branches, plain_of, IsStop, verdict_of, CameFrom, SoFar}
use Rattle.parser.proofs.WhereBranchesComeFrom.{came_begins}
use Rattle.parser.proofs.Running.{begun}
use Rattle.parser.proofs.parse.parse_from.Goals as goal

pub run-requires-clause-so_far : goal.run-requires-clause-so_far
run-requires-clause-so_far g c =
    let t = c.args.tables.now in
    let kinds = g.K.Kinds.kinds c.args.kinds.now in
    let cells = c.args.store.now in
    let n = c.args.number in
    let m = c.in_ok-machine.machine in
    let made = c.in_ok-machine.ensures in
    let start = made.states.0 in
    let input = c.args.input in
    let first = begun t kinds n cells start input made.states.1 c.requires.input c.requires.older in
    let whole = input_of cells input kinds 0 in
    subst (λ read_from. SoFar t (input_of cells input read_from 0) read_from (length cells) n cells m.stack.items m.states.items m.read input) (sym c.new-reader.ensures)
    (subst (λ stack. SoFar t whole kinds (length cells) n cells stack m.states.items m.read input) (sym made.stack)
    (subst (λ states. SoFar t whole kinds (length cells) n cells [] states m.read input) (sym made.states.2)
    (subst (λ r. SoFar t whole kinds (length cells) n cells [] (start ∷ []) r input) (sym made.read) first)))

pub run-requires-clause-came : goal.run-requires-clause-came
run-requires-clause-came g c =
    let cells = c.args.store.now in
    let n = c.args.number in
    let made = c.in_ok-machine.ensures in
    let input = c.args.input in
    let first = came_begins n cells input in
    subst (λ stack. CameFrom (all_trees cells input) (length cells) n cells stack c.in_ok-machine.machine.read input) (sym made.stack)
    (subst (λ r. CameFrom (all_trees cells input) (length cells) n cells [] r input) (sym made.read) first)

pub returns-clause-came : goal.returns-clause-came
returns-clause-came g c = let there = c.in_ok-halt.ensures.came in (c.run.new.self.read, there.0, there.1)

pub returns-clause-run : goal.returns-clause-run
returns-clause-run g c =
    let there = c.in_ok-halt.ensures.so_far in
    record {
      states = c.run.new.self.states.items;
      read = c.run.new.self.read;
      rest = there.0;
      so_far =
          subst (λ kinds. SoFar c.args.tables.now (input_of c.args.store.now c.args.input kinds 0) kinds (length c.args.store.now) c.args.number c.run.new.store
          c.run.new.self.stack.items c.run.new.self.states.items c.run.new.self.read there.0) c.new-reader.ensures there.1;
    }

pub returns-clause-parse : goal.returns-clause-parse
returns-clause-parse g c =
    let t = c.args.tables.now in
    let kinds = g.K.Kinds.kinds c.args.kinds.now in
    let new = c.run.new.store in
    let stack = c.run.new.self.stack.items in
    let made = returns-clause-run g c in
    record {
      stop = subst (λ ks. IsStop t ks new (verdict_of c.in_ok-halt.halt stack) stack c.state-state.result) c.new-reader.ensures
          (subst (IsStop t _ new (verdict_of c.in_ok-halt.halt stack) stack) (sym c.state-state.ensures) c.in_ok-halt.ensures.stops.1);
      branches = c.in_ok-branches.ensures ∙ ap (λ l. all_branches (plain_of new l)) c.deref.ensures.value;
      built = omega (arith, c.len.ensures.is, c.len-before.ensures.is, made.so_far.count, made.so_far.made);
      older = made.so_far.up_to;
      countable = omega (arith, c.in_ok-halt.ensures.countable, ap length c.new-reader.ensures);
    }
