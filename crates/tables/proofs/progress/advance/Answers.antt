use Rattle.tables.proofs.Std.{◌≡◌, List, length, sym, ap, subst, ◌∙◌, arith, common_steps}
use Rattle.tables.proofs.Common.{Symbol, kernel_at, IsRow, HasKernel, HasSet, IsDecided}
use Rattle.tables.proofs.MovesOfState.{made_more}
use Rattle.tables.proofs.progress.advance.Goals as goal

pub close-requires : goal.close-requires
close-requires c = rw c.kernel.ensures (rw c.len.ensures (c.requires.states.ordered (length c.args.made.now.gotos) c.requires.more))

pub returns-clause-made : goal.returns-clause-made
returns-clause-made c =
    let g = c.args.grammar.now in
    let old = c.args.states.now.kernels in
    let new = c.gotos.new.self.kernels in
    let t = c.args.made.now in
    let s = length t.gotos in
    let goes = c.in_ok-to.ensures.goes_on in
    let items = c.in_ok-items.items.items in
    let kernel : c.kernel.result.now ≡ kernel_at old s = c.kernel.ensures ∙ ap (kernel_at old) c.len.ensures in
    let set : (prefix : List Symbol) → HasKernel g.grammar (kernel_at new s) prefix → HasSet g.grammar items prefix =
    λ p k. c.in_ok-items.ensures.set p (subst (λ y. HasKernel g.grammar y p) (goes.same s c.requires.more ∙ sym kernel) k) in
    let row : IsRow g new s c.new-row.result = subst (IsRow g new s) (sym c.new-row.ensures) (subst (λ n. IsRow g new n c.in_ok-to.to.items) c.len.ensures c.in_ok-to.ensures.row) in
    let decided : IsDecided g.grammar items c.new-row.result c.in_ok-decided.decided =
    subst (λ y. IsDecided g.grammar y c.new-row.result c.in_ok-decided.decided) c.deref-2.ensures.value c.in_ok-decided.ensures in
    made_more g old new goes t c.add.new.self c.requires.made c.requires.more c.new-row.result row c.in_ok-gotos.gotos
    (rw (← c.rules.ensures.rules) c.in_ok-gotos.ensures) c.in_ok-add.ensures.gotos items c.in_ok-items.ensures.known set c.in_ok-decided.decided decided c.in_ok-add.ensures.moves

pub returns-clause-longer : goal.returns-clause-longer
returns-clause-longer c = grind (arith, common_steps)

pub returns-clause-states : goal.returns-clause-states
returns-clause-states c = grind (arith, common_steps)
