use Rattle.parser.proofs.Std.{◌≡◌, [], None, subst, sym, ◌∙◌}
use Rattle.parser.proofs.Common.{Next, IsInput, plain_of, IsEdge}
use Rattle.parser.proofs.Edges.{none_counted, no_trees}
use Rattle.parser.proofs.Running.{skipped_on}
use Rattle.parser.proofs.machine.Machine.edge.Goals as goal

pub returns-then-len-eq0-clause-edge : goal.returns-then-len-eq0-clause-edge
returns-then-len-eq0-clause-edge g c =
    let t = c.args.tables.now in
    let cells = c.args.store.now in
    let read = c.args.self.now.read in
    let kinds = c.args.kinds.now in
    let stack = plain_of cells c.args.self.now.stack.items in
    let none : c.args.input.now ≡ [] = none_counted c.args.input.now (sym c.len.ensures ∙ c.if-len-eq0.true) in
    subst (λ trees. IsEdge t cells stack kinds read trees trees (record { offer = Next c.kind.result; first = None; len = 0 })) (sym none)
    (no_trees t cells stack kinds read c.kind.result c.kind.ensures.is (subst (λ trees. IsInput t.grammar cells trees kinds read) none c.requires.input))

pub first_input-requires-clause-input : goal.first_input-requires-clause-input
first_input-requires-clause-input g c =
    (skipped_on c.args.tables.now.grammar c.args.store.now c.args.kinds.now c.args.self.now.read c.args.input.now c.skip_empty.new.self c.skip_empty.ensures.skips c.requires.input).0
